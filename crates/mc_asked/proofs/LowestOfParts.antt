-- The lowest of many pairs, part by part.
use Rattle.std.proofs.Common.{ℕ, List, [], ◌∷◌, ◌++◌, take, sym, subst, append-nil, append_assoc}
use Rattle.std.specs.List.Sorted.{IsStrictlySortedBy}
use Rattle.mc_tables.specs.CacheTable.{key_cmp}
use Rattle.mc_tables.specs.Summary.{in_order}
use Rattle.mc_tables.proofs.LowestLemmas.{take_put_pair-ascends, take_in_order-push, take_in_order-none}

-- the 20 lowest pairs
abbrev pub lowest : List (ℕ × ℕ) → List (ℕ × ℕ)
lowest ps = take 20 (in_order ps)

-- ---- ascending order

-- no pairs ascend
is_strictly_sorted_by-nil : IsStrictlySortedBy key_cmp []
unfolding IsStrictlySortedBy
is_strictly_sorted_by-nil = tt

-- the lowest of a part and of others ascend, as they are merged
is_strictly_sorted_by-lowest_append : (qs ps : List (ℕ × ℕ)) → IsStrictlySortedBy key_cmp (lowest qs)
    → IsStrictlySortedBy key_cmp (lowest (qs ++ ps))
is_strictly_sorted_by-lowest_append qs [] up =
    subst (λ (l : List (ℕ × ℕ)). IsStrictlySortedBy key_cmp (lowest l)) (sym (append-nil qs)) up
is_strictly_sorted_by-lowest_append qs (p ∷ ps) up =
    subst (λ (l : List (ℕ × ℕ)). IsStrictlySortedBy key_cmp (lowest l)) (append_assoc qs (p ∷ []) ps)
    (is_strictly_sorted_by-lowest_append (qs ++ p ∷ []) ps
    (subst (IsStrictlySortedBy key_cmp) (sym (take_in_order-push qs p)) (take_put_pair-ascends p (lowest qs)
    up)))

-- the lowest of any pairs ascend
pub is_strictly_sorted_by-lowest : (ps : List (ℕ × ℕ)) → IsStrictlySortedBy key_cmp (lowest ps)
is_strictly_sorted_by-lowest ps = is_strictly_sorted_by-lowest_append [] ps
    (subst (IsStrictlySortedBy key_cmp) take_in_order-none is_strictly_sorted_by-nil)
