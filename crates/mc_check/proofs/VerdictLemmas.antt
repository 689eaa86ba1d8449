-- What a verdict by the first reason promises.
use Rattle.std.proofs.Common.{◌≡◌, ℕ, suc, ◌<◌, ◌≤◌, ◌^◌, inl, inr, All, List, [], ◌∷◌}
use Rattle.std.proofs.Common.{map, length, Option, Some, None, refl, sym, subst, ◌∙◌, arith}
use Rattle.std.proofs.lemmas.List.{length-map}
use Rattle.mc_theory.specs.Lists.{In}
use Rattle.mc_theory.specs.Nets.{Net, IsNet, WantsBelow}
use Rattle.mc_theory.specs.Certificates.{Entry, IsAccepted}
use Rattle.mc_theory.specs.Reasons.{first_reason}
use Rattle.mc_theory.proofs.FirstReason.{first_reason-none_iff_accepted}
use Rattle.mc_theory.proofs.ReachedLans.{is_safe-from_tree, is_delivered-from_lossless_run}
use Rattle.mc_theory.proofs.ReachedLans.{is_right-from_accepted}
use Rattle.mc_theory.proofs.Headline.{headline_holds-from_accepted}
use Rattle.mc_forward.specs.Domains.{DomainValue, IsDomain, net_of}
use Rattle.mc_forward.proofs.BelowLemmas.{length-of_distinct_below}
use Rattle.mc_forward.proofs.DomainLemmas.{is_net-net_of, wants-below_lan_count, ttl-at_least_1}
use Rattle.mc_check.specs.Reasons.{optional_reason_value}
use Rattle.mc_check.specs.Verdicts.{verdict_by, YesIffAccepted, YesCountsEntries}
use Rattle.mc_check.specs.Verdicts.{NoGivesFirstReason, YesIsSafe}
use Rattle.mc_check.specs.Verdicts.{YesDelivers, YesIsRight, YesKeepsHeadline}
use Rattle.mc_check.specs.declared.verdict.Reason.{Reason}

-- this is the first reason, on a net whose tables are valid
pub record IsFirstReason (n : Net) (count : ℕ) (es : List Entry) (o : Option Reason) : Type 0 where
  pub net : IsNet n
  pub wants : WantsBelow n count
  pub ttl : 1 ≤ n.ttl
  pub reason_is_first : optional_reason_value o ≡ first_reason n count es

-- a list without a reason against it is accepted
pub is_accepted-no_reason : (n : Net) (count : ℕ) (es : List Entry) → IsFirstReason n count es None
    → IsAccepted n es
is_accepted-no_reason n count es j = (first_reason-none_iff_accepted n count es j.net j.wants).0
    (sym j.reason_is_first)

-- so the verdict is yes exactly where the list is accepted
pub yes_iff_accepted : (n : Net) (count : ℕ) (es : List Entry) (o : Option Reason)
    → IsFirstReason n count es o
    → YesIffAccepted n es (verdict_by o (length es))
yes_iff_accepted n count es None j = ((λ _. is_accepted-no_reason n count es j), (λ _. refl))
yes_iff_accepted n count es (Some r) j = (
  (λ q. absurd cc),
  (λ acc. let none = j.reason_is_first
      ∙ (first_reason-none_iff_accepted n count es j.net j.wants).1 acc in absurd cc),
)

-- a yes has the number of the entries
pub yes_counts_entries : (n : Net) (es : List Entry) (o : Option Reason)
    → YesCountsEntries n es (verdict_by o (length es))
yes_counts_entries n es None = refl
yes_counts_entries n es (Some r) = tt

-- a no has the first reason
pub no_gives_first_reason : (n : Net) (count : ℕ) (es : List Entry) (o : Option Reason)
    → IsFirstReason n count es o
    → NoGivesFirstReason count n es (verdict_by o (length es))
no_gives_first_reason n count es None j = tt
no_gives_first_reason n count es (Some r) j = sym j.reason_is_first

-- by an accepted list every run is safe,
pub yes_is_safe : (n : Net) (count : ℕ) (es : List Entry) (o : Option Reason) → IsFirstReason n count es o
    → YesIsSafe n es (verdict_by o (length es))
yes_is_safe n count es None j = λ t ps low high range. is_safe-from_tree n es t ps j.net
    (is_accepted-no_reason n count es j).is_tree low high range
yes_is_safe n count es (Some r) j = tt

-- every complete run without loss brings what the list says,
pub yes_delivers : (n : Net) (count : ℕ) (es : List Entry) (o : Option Reason)
    → IsFirstReason n count es o → YesDelivers n es (verdict_by o (length es))
yes_delivers n count es None j = λ t ps low high range whole done. is_delivered-from_lossless_run n
    es t ps j.net
    (is_accepted-no_reason n count es j).is_tree low high range whole done
yes_delivers n count es (Some r) j = tt

-- the flow is right,
pub yes_is_right : (n : Net) (count : ℕ) (es : List Entry) (o : Option Reason) → IsFirstReason n count es o
    → YesIsRight n es (verdict_by o (length es))
yes_is_right n count es None j = is_right-from_accepted n es j.net j.ttl (is_accepted-no_reason n count es j)
yes_is_right n count es (Some r) j = tt

-- and the headline holds
pub yes_keeps_headline : (n : Net) (count : ℕ) (es : List Entry) (o : Option Reason)
    → IsFirstReason n count es o → YesKeepsHeadline n es (verdict_by o (length es))
yes_keeps_headline n count es None j = headline_holds-from_accepted n es j.net j.ttl
    (is_accepted-no_reason n count es j)
yes_keeps_headline n count es (Some r) j = tt

-- a LAN that is named is below the count
entry_lan-below_count : (es : List Entry) (count l : ℕ) → All (λ e. e.lan < count) es
    → In l (map (λ (e : Entry). e.lan) es) → l < count
entry_lan-below_count [] count l all h = absurd h
entry_lan-below_count (e ∷ es) count l all (inl q) = subst (λ (k : ℕ). k < count) q (all 0 e (omega arith))
entry_lan-below_count (e ∷ es) count l all (inr h) = entry_lan-below_count es count l
    (λ k d lt. all (suc k) d (omega (arith, lt))) h

-- so an accepted list has at most as many entries as there are LANs
pub length-accepted_entries : (n : Net) (es : List Entry) (count : ℕ) → IsAccepted n es
    → All (λ e. e.lan < count) es → length es ≤ count
length-accepted_entries n es count acc all =
    let bound = length-of_distinct_below (map (λ (e : Entry). e.lan) es) count acc.is_tree.one_entry
    (λ l h. entry_lan-below_count es count l all h) in
    omega (arith, bound, length-map es (λ (e : Entry). e.lan))

-- the first reason of the code, for the net of a domain's flow
pub is_first_reason-of_domain : (d : DomainValue) (flow : ℕ) (es : List Entry) (o : Option Reason)
    → IsDomain d
    → flow < length d.topology.flows
    → optional_reason_value o ≡ first_reason (net_of d flow) (length d.topology.lans) es
    → IsFirstReason (net_of d flow) (length d.topology.lans) es o
is_first_reason-of_domain d flow es o ok lt e = record {
  net = is_net-net_of d flow ok;
  wants = λ l w. wants-below_lan_count d flow l ok w;
  ttl = ttl-at_least_1 d flow ok lt;
  reason_is_first = e;
}

-- without a reason, the number of entries fits into 32 bits
pub entry_count_fits : (d : DomainValue) (flow : ℕ) (es : List Entry) (o : Option Reason) → IsDomain d
    → IsFirstReason (net_of d flow) (length d.topology.lans) es o
    → All (λ e. e.lan < length d.topology.lans) es → o ≡ None → length es < 2 ^ 32
entry_count_fits d flow es None ok j all e =
    let bound = length-accepted_entries (net_of d flow) es (length d.topology.lans)
    (is_accepted-no_reason (net_of d flow) (length d.topology.lans) es j) all in
    omega (arith, bound, ok.topology.few_lans)
entry_count_fits d flow es (Some r) ok j all e = absurd cc
