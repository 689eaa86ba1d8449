use Rattle.std.proofs.Common.{List, ℕ, map, subst, ◌≡◌, None}
use Rattle.mc_bundle.specs.Bundle.{PartText}
use Rattle.mc_files.specs.PartMismatch.{first_mismatch}
use Rattle.mc_files.specs.Layout.{part_name, slots}
use Rattle.mc_files.proofs.PartMismatchLemmas.{same_names-from_first_mismatch, first_mismatch-same_names}
use Rattle.mc_files.proofs.laws.parts_match_slots_exactly_by_name.Goals as goal

-- Two lists differ at no place exactly where they are equal.
pub returns : goal.returns
returns c = λ certified t parts.
    let names : List (List ℕ) = map part_name (slots certified t) in
    let others : List (List ℕ) = map (λ (part : PartText). part.name) parts in (
      λ none. same_names-from_first_mismatch names others none,
      λ same. subst (λ (xs : List (List ℕ)). first_mismatch names xs ≡ None) same
          (first_mismatch-same_names names),
    )
