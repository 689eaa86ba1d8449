-- Certificates of the example networks: each first reason is computed.
use Rattle.std.proofs.Common.{◌≡◌, false, ◌==◌, List, [], ◌∷◌, ◌++◌, length, Some, None, refl}
use Rattle.mc_theory.specs.Lists.{below}
use Rattle.mc_theory.specs.Nets.{Net}
use Rattle.mc_theory.specs.Nets.Row.{Exact, Open, NoRow}
use Rattle.mc_theory.specs.Certificates.{Entry}
use Rattle.mc_theory.specs.Reasons.{first_reason}
use Rattle.mc_theory.specs.Reasons.Reason.{TwoEntries, BadSource, Wildcard, Stray, Extra, WrongRank}
use Rattle.mc_theory.specs.Reasons.Reason.{WrongNeed, Unfed, Missed, Low}
use Rattle.mc_theory.specs.ExampleNetworks.{network, entry, onward, line_places, line_with, line}
use Rattle.mc_theory.specs.ExampleNetworks.{l0_entry, l1_entry, l2_entry, line_entries}
use Rattle.mc_theory.specs.ExampleNetworks.{line_with_shortcut, line_with_loop}
use Rattle.mc_theory.proofs.ExampleBranching.{onto_itself, branching}
use Rattle.mc_theory.specs.ExampleNetworks.{line_with_shortcut, line_with_loop}
use Rattle.mc_theory.proofs.ExampleBranching.{branching_entries}

-- ---- the line

-- the line's certificate is accepted
first_reason-line : first_reason (line 3) 3 line_entries ≡ None
unfolding below
first_reason-line = refl

-- it has three entries
length-line_entries : length line_entries ≡ 3
length-line_entries = refl

-- with TTL 2 it isn't, since l2's need is 3
first_reason-ttl_below_need : first_reason (line 2) 3 line_entries ≡ Some (Low 2)
unfolding below
first_reason-ttl_below_need = refl

-- the branching's certificate is accepted
first_reason-branching : first_reason (branching 3) 4 branching_entries ≡ None
unfolding below
first_reason-branching = refl

-- it has four entries
length-branching_entries : length branching_entries ≡ 4
length-branching_entries = refl

-- no row at all, and the source's LAN alone wants: it alone carries the packet
first_reason-source_alone : first_reason (network 3 line_places [] (λ l. l == 0) 3) 3
    (l0_entry ∷ []) ≡ None
unfolding below
first_reason-source_alone = refl

-- ---- one row too many

-- r3 sends onto l2, whose forwarder is r2
first_reason-shortcut : first_reason (line_with_shortcut 3) 3 line_entries ≡ Some (Extra 2 1 2)
unfolding below
first_reason-shortcut = refl

-- r3 sends onto l0, which has no forwarder
first_reason-loop : first_reason (line_with_loop 3) 3 line_entries ≡ Some (Extra 2 1 0)
unfolding below
first_reason-loop = refl

-- a row isn't spared the pair of its incoming vif
first_reason-incoming_vif_in_list :
    first_reason (line_with ((0, Exact 0 ((0, 1) ∷ (1, 1) ∷ [])) ∷ (1, onward) ∷ []) 3) 3
    line_entries ≡ Some (Extra 0 0 0)
unfolding below
first_reason-incoming_vif_in_list = refl

-- nor one of another vif on the same LAN
first_reason-onto_incoming_lan : first_reason (onto_itself 3) 3 line_entries ≡ Some (Extra 2 2 1)
unfolding below
first_reason-onto_incoming_lan = refl

-- ---- thresholds at the edge

-- r1's threshold is 254: 255 is the one TTL that passes
abbrev line_with_threshold_254 : Net
line_with_threshold_254 = line_with ((0, Exact 0 ((1, 254) ∷ [])) ∷ (1, onward) ∷ []) 255

-- its certificate
abbrev entries_with_threshold_254 : List Entry
entries_with_threshold_254 = l0_entry ∷ entry 1 1 255 (Some (0, 1)) ∷ entry 2 2 255 (Some (1, 1)) ∷ []

-- it is accepted
first_reason-threshold_254 : first_reason line_with_threshold_254 3 entries_with_threshold_254 ≡ None
unfolding below
first_reason-threshold_254 = refl

-- r2's threshold is 254: what comes there has TTL 254 at most, so its pair is dead
first_reason-dead_pair_without_entry :
    first_reason (network 3 line_places ((0, onward) ∷ (1, Exact 0 ((1, 254) ∷ [])) ∷ [])
    (λ l. false) 3) 3 (l0_entry ∷ l1_entry ∷ []) ≡ None
unfolding below
first_reason-dead_pair_without_entry = refl

-- but l2 is missed if it wants the flow
first_reason-wanting_lan_behind_dead_pair :
    first_reason (line_with ((0, onward) ∷ (1, Exact 0 ((1, 254) ∷ [])) ∷ []) 3) 3
    (l0_entry ∷ l1_entry ∷ []) ≡ Some (Missed 2)
unfolding below
first_reason-wanting_lan_behind_dead_pair = refl

-- ---- vifs that aren't placed, and routers without an exact row

-- r1's vif 2 is a register vif, which is placed nowhere
first_reason-register_vif :
    first_reason (line_with ((0, Exact 0 ((1, 1) ∷ (2, 1) ∷ [])) ∷ (1, onward) ∷ []) 3) 3
    line_entries ≡ Some (Stray 0 2)
unfolding below
first_reason-register_vif = refl

-- r2 has no row, so l2 isn't fed
first_reason-forwarder_without_row :
    first_reason (line_with ((0, onward) ∷ (1, NoRow) ∷ []) 3) 3 line_entries ≡ Some (Unfed 2)
unfolding below
first_reason-forwarder_without_row = refl

-- r2 has a (*,G) entry alone
first_reason-open_row :
    first_reason (line_with ((0, onward) ∷ (1, Open) ∷ []) 3) 3 line_entries ≡ Some (Wildcard 1 0)
unfolding below
first_reason-open_row = refl

-- ---- wrong entries

-- l2's need has to be 3
first_reason-need_too_low :
    first_reason (line 3) 3 (l0_entry ∷ l1_entry ∷ entry 2 2 2 (Some (1, 1)) ∷ []) ≡ Some
    (WrongNeed 2)
unfolding below
first_reason-need_too_low = refl

-- l2's rank has to be 2
first_reason-rank_too_great :
    first_reason (line 3) 3 (l0_entry ∷ l1_entry ∷ entry 2 3 3 (Some (1, 1)) ∷ []) ≡ Some
    (WrongRank 2)
unfolding below
first_reason-rank_too_great = refl

-- the need of the source's LAN has to be 1
first_reason-source_with_need_2 :
    first_reason (line 3) 3 (entry 0 0 2 None ∷ l1_entry ∷ l2_entry ∷ []) ≡ Some BadSource
unfolding below
first_reason-source_with_need_2 = refl

-- l2 has two entries
first_reason-repeated_entry : first_reason (line 3) 3 (line_entries ++ l2_entry ∷ []) ≡ Some
    (TwoEntries 2)
unfolding below
first_reason-repeated_entry = refl

-- r2 sends onto l2, which has no entry
first_reason-reached_lan_not_named :
    first_reason (line 3) 3 (l0_entry ∷ l1_entry ∷ []) ≡ Some (Extra 1 1 2)
unfolding below
first_reason-reached_lan_not_named = refl
