use Rattle.std.proofs.Common.{◌≡◌, ℕ, ◌||◌, false, drop}
use Rattle.std.specs.Prelude.{slice_index_or, is_some}
use Rattle.mc_theory.specs.Findings.{first_copy_on}
use Rattle.mc_shown.proofs.wanted.mark_lans.Given as goal

-- a LAN is marked so far or has a copy that is left exactly if it was marked before or has one at all
abbrev pub invariant-loop-copy : goal.invariant-loop-copy
invariant-loop-copy l =
    (lan : ℕ) → (slice_index_or l.marks lan false
    || is_some (first_copy_on (drop l.copy-index l.copies) lan))
    ≡ (slice_index_or l.initial.marks lan false || is_some (first_copy_on l.copies lan))
