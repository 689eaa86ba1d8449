-- Travels in the example networks: events and findings are computed.
use Rattle.std.proofs.Common.{◌≡◌, ℕ, true, false, List, [], ◌∷◌, refl}
use Rattle.mc_theory.specs.Lists.{below}
use Rattle.mc_theory.specs.Nets.{interfaces}
use Rattle.mc_theory.specs.Flights.{start, run}
use Rattle.mc_theory.specs.Events.{Event, events}
use Rattle.mc_theory.specs.Events.Outcome.{OtherVif, Sent}
use Rattle.mc_theory.specs.Findings.{IsTravel, handles}
use Rattle.mc_theory.specs.Findings.Finding.{Clean, Duplicate, Loop, Missed}
use Rattle.mc_theory.specs.CertificateOfCopies.{entries_of}
use Rattle.mc_theory.specs.ExampleNetworks.{line, line_entries, line_with_shortcut, line_with_loop}
use Rattle.mc_theory.proofs.ExampleBranching.{onto_itself}

-- r's vif took a copy with this TTL, and sent so many on, none astray
abbrev sent_event : ℕ → ℕ → ℕ → ℕ → Event
sent_event r v t copies = record { router = r; vif = v; ttl = t; outcome = Sent copies 0 }

-- the copy came by another vif than the expected one
abbrev other_vif_event : ℕ → ℕ → ℕ → Event
other_vif_event r v t = record { router = r; vif = v; ttl = t; outcome = OtherVif }

-- ---- the line: r1 forwards l0 to l1, and r2 l1 to l2

-- two picks of the first waiting copy
abbrev two_first_picks : List ℕ
two_first_picks = 0 ∷ 0 ∷ []

-- three such picks
abbrev three_first_picks : List ℕ
three_first_picks = 0 ∷ 0 ∷ 0 ∷ []

-- four such picks
abbrev four_first_picks : List ℕ
four_first_picks = 0 ∷ 0 ∷ 0 ∷ 0 ∷ []

-- at TTL 2 r2 doesn't send on, since 1 isn't greater than its threshold 1
is_travel-line_at_ttl_2 : IsTravel (line 2) 3 [] false two_first_picks (start (line 2) 2) (Missed 2)
unfolding below interfaces
is_travel-line_at_ttl_2 = (refl, refl, (refl, refl, refl))

-- r1 puts a copy on l1, and r2 sends none
events-line_at_ttl_2 : events (line 2) two_first_picks (start (line 2) 2) ≡ sent_event 0 0 2 1 ∷
    sent_event 1 0 1 0
    ∷ []
unfolding below interfaces
events-line_at_ttl_2 = refl

-- at TTL 255 nothing is wrong with the line
is_travel-line_at_ttl_255 : IsTravel (line 2) 3 [] false two_first_picks (start (line 2) 255) Clean
unfolding below interfaces
is_travel-line_at_ttl_255 = (refl, refl, (refl, refl, refl))

-- and makes the line's certificate
entries_of-line_copies : entries_of (line 3) (run (line 3) (handles two_first_picks)
    (start (line 3) 255)).carried ≡ line_entries
unfolding below interfaces
entries_of-line_copies = refl

-- ---- a shortcut: r3 forwards l0 to l2 too, so l2 gets two copies

-- at TTL 3 the second copy on l2 is found after three handlings
is_travel-shortcut : IsTravel (line_with_shortcut 3) 3 [] false three_first_picks
    (start (line_with_shortcut 3) 3)
    (Duplicate 2)
unfolding below interfaces
is_travel-shortcut = (refl, refl, (refl, refl, (refl, refl, refl)))

-- r1 forwards, then r3 and then r2
events-shortcut : events (line_with_shortcut 3) three_first_picks (start (line_with_shortcut 3) 3)
    ≡ sent_event 0 0 3 1
    ∷ sent_event 2 0 3 1 ∷ sent_event 1 0 2 1 ∷ []
unfolding below interfaces
events-shortcut = refl

-- and so it is at TTL 255
is_travel-shortcut_at_ttl_255 : IsTravel (line_with_shortcut 3) 3 [] false three_first_picks
    (start (line_with_shortcut 3) 255) (Duplicate 2)
unfolding below interfaces
is_travel-shortcut_at_ttl_255 = (refl, refl, (refl, refl, (refl, refl, refl)))

-- a picker that chooses number 1, and then always the first
abbrev one_then_first_picks : List ℕ
one_then_first_picks = 1 ∷ 0 ∷ 0 ∷ 0 ∷ []

-- by it the second copy is found as well
is_travel-shortcut_by_numbers : IsTravel (line_with_shortcut 3) 3 (1 ∷ []) false one_then_first_picks
    (start (line_with_shortcut 3) 3) (Duplicate 2)
unfolding below interfaces
is_travel-shortcut_by_numbers = (refl, refl, (refl, refl, (refl, refl, (refl, refl, refl))))

-- r3 forwards first, and r2 takes its copy from l2, by vif 1, which it doesn't expect
events-shortcut_by_numbers : events (line_with_shortcut 3) one_then_first_picks
    (start (line_with_shortcut 3) 3) ≡ sent_event 2 0
    3 1 ∷ sent_event 0 0 3 1 ∷ other_vif_event 1 1 2 ∷ sent_event 1 0 2 1 ∷ []
unfolding below interfaces
events-shortcut_by_numbers = refl

-- a picker that always chooses the last
abbrev last_picks : List ℕ
last_picks = 1 ∷ 1 ∷ 0 ∷ 0 ∷ []

-- by it the second copy is found as well
is_travel-shortcut_by_last : IsTravel (line_with_shortcut 3) 3 [] true last_picks
    (start (line_with_shortcut 3) 3)
    (Duplicate 2)
unfolding below interfaces
is_travel-shortcut_by_last = (refl, refl, (refl, refl, (refl, refl, (refl, refl, refl))))

-- r3 forwards first, r2 takes its copy from l2, and r1 and r2 forward last
events-shortcut_by_last : events (line_with_shortcut 3) last_picks (start (line_with_shortcut 3) 3)
    ≡ sent_event 2 0 3 1
    ∷ other_vif_event 1 1 2 ∷ sent_event 0 0 3 1 ∷ sent_event 1 0 2 1 ∷ []
unfolding below interfaces
events-shortcut_by_last = refl

-- ---- a loop: r3 forwards l2 back to l0

-- at TTL 4 the copy comes back to l0
is_travel-line_with_loop : IsTravel (line_with_loop 3) 3 [] false four_first_picks
    (start (line_with_loop 3) 4) (Loop 0)
unfolding below interfaces
is_travel-line_with_loop = (refl, refl, (refl, refl, (refl, refl, (refl, refl, refl))))

-- r3 takes the source's copy by vif 1, which it doesn't expect, and later forwards r2's onto l0
events-line_with_loop : events (line_with_loop 3) four_first_picks (start (line_with_loop 3) 4)
    ≡ sent_event 0 0 4 1
    ∷ other_vif_event 2 1 4 ∷ sent_event 1 0 3 1 ∷ sent_event 2 0 2 1 ∷ []
unfolding below interfaces
events-line_with_loop = refl

-- with one TTL less the copy ends before it comes back
is_travel-line_with_loop_at_ttl_3 : IsTravel (line_with_loop 3) 3 [] false four_first_picks
    (start (line_with_loop 3) 3)
    Clean
unfolding below interfaces
is_travel-line_with_loop_at_ttl_3 = (refl, refl, (refl, refl, (refl, refl, (refl, refl, refl))))

-- r3 sends none, since TTL 1 isn't greater than its threshold 1
events-line_with_loop_at_ttl_3 : events (line_with_loop 3) four_first_picks (start (line_with_loop 3) 3)
    ≡ sent_event 0 0 3 1
    ∷ other_vif_event 2 1 3 ∷ sent_event 1 0 2 1 ∷ sent_event 2 0 1 0 ∷ []
unfolding below interfaces
events-line_with_loop_at_ttl_3 = refl

-- ---- r3 takes from l1 and sends onto l1

-- at TTL 3 the copy comes to l1 again
is_travel-onto_itself : IsTravel (onto_itself 3) 3 [] false three_first_picks (start (onto_itself 3) 3)
    (Loop 1)
unfolding below interfaces
is_travel-onto_itself = (refl, refl, (refl, refl, (refl, refl, refl)))

-- r1 and r2 forward, and then r3 from l1 onto l1
events-onto_itself : events (onto_itself 3) three_first_picks (start (onto_itself 3) 3)
    ≡ sent_event 0 0
    3 1 ∷ sent_event 1 0 2 1 ∷ sent_event 2 1 2 1 ∷ []
unfolding below interfaces
events-onto_itself = refl
