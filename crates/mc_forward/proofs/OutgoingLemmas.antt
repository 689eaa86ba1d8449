-- Vifs that ascend up to 31: none at the front is as high as a vif that leaves too little room.
use Rattle.std.proofs.Common.{◌≡◌, ℕ, zero, suc, ◌+◌, ◌<◌, ◌≤◌, List, [], ◌∷◌, ◌++◌, map, length}
use Rattle.std.proofs.Common.{take, drop, ◌-◌, min, ◌⊎◌, inl, inr, refl, ap, sym, subst, ◌∙◌, arith}
use Rattle.std.proofs.lemmas.List.{take_all, length-drop}
use Rattle.std.specs.List.{AllByRecursion}
use Rattle.std.specs.List.Sorted.{IsStrictlyIncreasing}
use Rattle.mc_tables.specs.CacheTable.{EntryValue, IsValidEntry}
use Rattle.mc_tables.specs.declared.cache.entry.Oif.{Oif}
use Rattle.mc_tables.proofs.EntryLemmas.{tail-ascends}

-- vifs and thresholds are those that a kernel may have
abbrev AreInRange : List Oif → Type 0
AreInRange oifs =
    AllByRecursion (λ oif. (oif.vif ≤ 31) × (1 ≤ oif.threshold) × (oif.threshold ≤ 254)) oifs

-- vifs ascend
abbrev Ascend : List Oif → Type 0
Ascend oifs = IsStrictlyIncreasing (map (λ (o : Oif). o.vif) oifs)

-- a vif leaves room for those after it, up to 31
vif_plus_length-at_most_32 : (oif : Oif) (oifs : List Oif) → Ascend (oif ∷ oifs) → AreInRange (oif ∷ oifs)
    → oif.vif + length (oif ∷ oifs) ≤ 32
vif_plus_length-at_most_32 oif [] up within = omega (arith, within.0.0)
vif_plus_length-at_most_32 oif (next ∷ oifs) up within =
    let first : oif.vif < next.vif = up 0 (omega arith) in
    let rest = vif_plus_length-at_most_32 next oifs
    (tail-ascends oif.vif (map (λ (o : Oif). o.vif) (next ∷ oifs)) up)
    within.1 in
    omega (arith, first, rest)

-- the first k are lower than a vif if that leaves too little room for the others
take-lower_vifs : (oifs : List Oif) (k vif : ℕ) → Ascend oifs → AreInRange oifs → k ≤ length oifs
    → k + 32 ≤ vif + length oifs → AllByRecursion (λ (o : Oif). o.vif < vif) (take k oifs)
take-lower_vifs oifs zero vif up within few here = tt
take-lower_vifs [] (suc k) vif up within few here = tt
take-lower_vifs (oif ∷ oifs) (suc k) vif up within few here =
    let fits = vif_plus_length-at_most_32 oif oifs up within in (
      omega (arith, fits, few, here),
      take-lower_vifs oifs k vif (tail-ascends oif.vif (map (λ (o : Oif). o.vif) oifs) up) within.1
          (omega (arith, few)) (omega (arith, here)),
    )

-- so are those of an entry, or there are none
take-lower_vifs_of_entry : (entry : EntryValue) (k vif : ℕ) → IsValidEntry entry → k ≤ length entry.oifs
    → (k ≡ 0) ⊎ (k + 32 ≤ vif + length entry.oifs)
    → AllByRecursion (λ (o : Oif). o.vif < vif) (take k entry.oifs)
take-lower_vifs_of_entry entry k vif ok few (inl e) =
    subst (λ (n : ℕ). AllByRecursion (λ (o : Oif). o.vif < vif) (take n entry.oifs)) (sym e) tt
take-lower_vifs_of_entry entry k vif ok few (inr here) =
    take-lower_vifs entry.oifs k vif ok.ascending ok.ranges few here

-- a front and the rest are the whole
append-take_and_drop : (k : ℕ) (oifs : List Oif)
    → take k oifs ++ take (length oifs - k) (drop k oifs) ≡ oifs
append-take_and_drop k oifs =
    ap (λ (rest : List Oif). take k oifs ++ rest)
    (take_all (length oifs - k) (drop k oifs) (let e = length-drop k oifs in omega (arith, e)))
    ∙ take-drop k oifs
  where
    take-drop : (k : ℕ) (oifs : List Oif) → take k oifs ++ drop k oifs ≡ oifs
    take-drop zero oifs = refl
    take-drop (suc k) [] = refl
    take-drop (suc k) (o ∷ oifs) = ap (λ (os : List Oif). o ∷ os) (take-drop k oifs)

-- how many are in front: none, or as many as are lower for certain
none_or_fits : (vif n k : ℕ) → k ≡ min (vif + n - 32) n → (k ≡ 0) ⊎ (k + 32 ≤ vif + n)
none_or_fits vif n k e = grind arith

-- so those at the front of an entry's are lower
pub append-lower_vifs_and_rest : (entry : EntryValue) (oifs : List Oif) (vif k : ℕ) → IsValidEntry entry
    → oifs ≡ entry.oifs → k ≡ min (vif + length oifs - 32) (length oifs)
    → (lower : List Oif) × (lower ++ take (length oifs - k) (drop k oifs) ≡ entry.oifs)
    × AllByRecursion (λ (o : Oif). o.vif < vif) lower
append-lower_vifs_and_rest entry oifs vif k ok same is =
    let cases = subst (λ (os : List Oif). (k ≡ 0) ⊎ (k + 32 ≤ vif + length os)) same
    (none_or_fits vif (length oifs) k is) in (
      take k oifs,
      append-take_and_drop k oifs ∙ same,
      subst (λ (os : List Oif). AllByRecursion (λ (o : Oif). o.vif < vif) (take k os)) (sym same)
          (take-lower_vifs_of_entry entry k vif ok (omega (arith, is, ap length same)) cases),
    )
