-- The verdicts on the first flows, with one flow more at a time.
use Rattle.std.proofs.Common.{◌≡◌, ℕ, ◌+◌, ◌<◌, inl, inr, List, [], ◌∷◌}
use Rattle.std.proofs.Common.{◌++◌, length, slice_get, Option, Some, ap, sym, subst, ◌∙◌}
use Rattle.std.proofs.Common.{arith, length-append}
use Rattle.mc_text.proofs.Lists.{slice_get-push_cases}
use Rattle.mc_theory.specs.Certificates.{Entry}
use Rattle.mc_theory.specs.Reasons.{first_reason}
use Rattle.mc_forward.specs.Domains.{DomainValue, IsDomain, net_of}
use Rattle.mc_check.specs.Reasons.{optional_reason_value}
use Rattle.mc_check.proofs.VerdictLemmas.{is_first_reason-of_domain, yes_iff_accepted}
use Rattle.mc_check.proofs.VerdictLemmas.{yes_counts_entries, no_gives_first_reason, yes_is_safe}
use Rattle.mc_check.proofs.VerdictLemmas.{yes_delivers}
use Rattle.mc_check.proofs.VerdictLemmas.{yes_is_right, yes_keeps_headline}
use Rattle.mc_check.specs.Verdicts.{verdict_by, HoldsForEachFlow, IsCorrectVerdict}
use Rattle.mc_check.specs.declared.verdict.Reason.{Reason}
use Rattle.mc_check.specs.declared.verdict.Verdict.{Verdict}

-- the verdicts on the first k flows
pub record AreVerdictsSoFar (d : DomainValue) (lists : List (List Entry)) (k : ℕ)
    (vs : List Verdict) : Type 0 where
  pub number : length vs ≡ k
  pub each : HoldsForEachFlow d lists vs (IsCorrectVerdict (length d.topology.lans))

-- the verdict by the first reason against the list is correct in all respects
pub is_correct_verdict-verdict_by : (d : DomainValue) (flow : ℕ) (es : List Entry) (o : Option Reason)
    (v : Verdict)
    → IsDomain d → flow < length d.topology.flows
    → optional_reason_value o ≡ first_reason (net_of d flow) (length d.topology.lans) es
    → v ≡ verdict_by o (length es) → IsCorrectVerdict (length d.topology.lans) (net_of d flow) es v
is_correct_verdict-verdict_by d flow es o v ok lt e by =
    let n = net_of d flow in
    let count = length d.topology.lans in
    let j = is_first_reason-of_domain d flow es o ok lt e in
    subst (IsCorrectVerdict count n es) (sym by) (record {
      accepted = yes_iff_accepted n count es o j;
      copy_count = yes_counts_entries n es o;
      reason = no_gives_first_reason n count es o j;
      safe = yes_is_safe n count es o j;
      delivered = yes_delivers n count es o j;
      right = yes_is_right n count es o j;
      headline = yes_keeps_headline n count es o j;
    })

-- one correct verdict more, on the next flow
pub verdicts_so_far-more : (d : DomainValue) (lists : List (List Entry)) (k : ℕ) (vs : List Verdict)
    (es : List Entry) (v : Verdict)
    → AreVerdictsSoFar d lists k vs → slice_get lists k ≡ Some es
    → IsCorrectVerdict (length d.topology.lans) (net_of d k) es v
    → AreVerdictsSoFar d lists (k + 1) (vs ++ v ∷ [])
verdicts_so_far-more d lists k vs es v j here correct = record {
  number = length-append vs (v ∷ []) ∙ (let h = j.number in omega arith);
  each = λ flow fs w at got. elim (slice_get-push_cases vs v flow w got) [
    | inl h ↦ j.each flow fs w at h
    | inr h ↦ (
        let number : flow ≡ k = h.0 ∙ j.number in
        let list : es ≡ fs = same_list (slice_get lists k) (ap (slice_get lists) (sym number) ∙ at)
        here in
        subst (λ x. IsCorrectVerdict (length d.topology.lans) (net_of d flow) fs x) h.1
        (subst (λ (xs : List Entry). IsCorrectVerdict (length d.topology.lans) (net_of d flow) xs v) list
        (subst (λ (i : ℕ). IsCorrectVerdict (length d.topology.lans) (net_of d i) es v) (sym number)
        correct)))
  ];
}
  where
    same_list : (o : Option (List Entry)) {xs ys : List Entry} → o ≡ Some ys → o ≡ Some xs → xs ≡ ys
    same_list o a b = cc
