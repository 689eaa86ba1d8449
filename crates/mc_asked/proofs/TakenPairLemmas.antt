-- Pairs that numbers take, one after another.
use Rattle.std.proofs.Common.{◌≡◌, ℕ, Bool, true, false, cond, List, [], ◌∷◌, ◌++◌, filter, map, inl, inr}
use Rattle.std.proofs.Common.{append_assoc, refl, subst, ap, ◌∙◌}
use Rattle.std.specs.Prelude.{◌↔◌, Contains}
use Rattle.std.proofs.lemmas.List.{map-append}
use Rattle.std.proofs.lemmas.List.Elements.{Contains-append_left, Contains-push_cases}
use Rattle.std.proofs.lemmas.List.Elements.{filter-append}
use Rattle.mc_text.specs.Addr.{is_source}
use Rattle.mc_text.specs.Pair.{pair_of}
use Rattle.mc_tables.specs.Summary.{in_order}
use Rattle.mc_tables.proofs.PairOrderLemmas.{in_order-same_and_others}
use Rattle.mc_asked.specs.ListWants.{included_in}
use Rattle.mc_asked.specs.TakenPairs.{TakesPairs}

-- a number that comes to them brings its pair
pub takes_pairs-pushed : (old new : List ℕ) (number : ℕ)
    → ((other : ℕ) → Contains new other ↔ Contains (old ++ number ∷ []) other)
    → TakesPairs old new (pair_of number ∷ [])
takes_pairs-pushed old new number same = λ others.
    in_order-same_and_others pair_of new (old ++ number ∷ []) others same
    ∙ ap (λ (l : List (ℕ × ℕ)). in_order (l ++ others)) (map-append pair_of old (number ∷ []))
    ∙ ap in_order (append_assoc (map pair_of old) (pair_of number ∷ []) others)

-- a number that is among them has brought its pair already
takes_pairs-known : (numbers : List ℕ) (number : ℕ) → Contains numbers number
    → TakesPairs numbers numbers (pair_of number ∷ [])
takes_pairs-known numbers number among =
    takes_pairs-pushed numbers numbers number (λ other. (
      λ there. Contains-append_left numbers (number ∷ []) other there,
      λ there. elim (Contains-push_cases numbers number other there) [
        | inl known ↦ known
        | inr is ↦ subst (Contains numbers) is among
      ],
    ))

-- so that nothing changes, whether its pair is to be taken or not
pub takes_pairs-known_if : (numbers : List ℕ) (number : ℕ) (taken : Bool) → Contains numbers number
    → TakesPairs numbers numbers (cond taken (pair_of number ∷ []) [])
takes_pairs-known_if numbers number true among = takes_pairs-known numbers number among
takes_pairs-known_if numbers number false among = λ others. refl

-- of the wants of a record's sources those that pass a test: that of the first, and those of the others
pub filter-included_first : (test : ℕ × ℕ → Bool) (group source : ℕ) (sources : List ℕ)
    → filter test (included_in group (source ∷ sources))
    ≡ filter test (included_in group (source ∷ [])) ++ filter test (included_in group sources)
filter-included_first test group source sources =
    let want : ℕ → ℕ × ℕ = λ s. (group, s) in
    ap (λ (l : List ℕ). filter test (map want l)) (filter-append is_source (source ∷ []) sources)
    ∙ ap (filter test) (map-append want (filter is_source (source ∷ [])) (filter is_source sources))
    ∙ filter-append test (included_in group (source ∷ [])) (included_in group sources)
