-- Numbers that are shown to differ by the marks that they leave in slots.
use Rattle.std.proofs.Common.{◌≡◌, ℕ, ◌+◌, ◌-◌, ◌<◌, ◌≤◌, Bool, true, false, List, [], ◌∷◌, ◌++◌, ◌⊎◌}
use Rattle.std.proofs.Common.{length, get_or, Ok, Err, refl, sym, ap, subst, ◌∙◌, arith, inl, inr}
use Rattle.std.specs.Prelude.{◌≢◌, nat_lt, slice_set, Result, IfOk}
use Rattle.std.specs.Result.{result_unwrap_or}
use Rattle.std.specs.Cmp.{IsEquivalence}
use Rattle.std.specs.List.{IsAllAdjacentAnswer}
use Rattle.std.specs.List.Sorted.{IsPermutation, IsStrictlyIncreasing}
use Rattle.std.specs.Ordering.{nat_cmp, eq_by_cmp}
use Rattle.std.proofs.lemmas.Bool.{cases_lt, ltb-true, true≢false}
use Rattle.std.proofs.lemmas.Bool.Decides.{nat_tests}
use Rattle.std.proofs.lemmas.List.{get_or-append_right, get_or_append_left, get_or-set_other, get_or-set_same}
use Rattle.std.proofs.lemmas.List.{get_or_default}
use Rattle.std.proofs.lemmas.List.{length-append, length-set}
use Rattle.std.proofs.lemmas.List.Sorted.{IsPermutation-sym}
use Rattle.std.proofs.lemmas.Cmp.{nat_cmp_total, eq_by_cmp_equiv}
use Rattle.std.proofs.lemmas.Map.Keys.{IsDistinct-IsPermutation, IsDistinct-from_sorted}
use Rattle.std.proofs.lemmas.Map.Keys.{IsDistinct-from_apart}
use Rattle.std.proofs.lemmas.Map.Keys.{apart_from_distinct, sorted_from_strictly_increasing}
use Rattle.mc_tables.specs.Distinct.{AreDistinct, slot_of, mark_of, mark_in_slot, IsPut}

-- ---- two numbers

-- numbers that differ are not the same
eq_by_cmp-different : (x y : ℕ) → x ≢ y → eq_by_cmp nat_cmp x y ≡ false
eq_by_cmp-different x y other = grind (arith, nat_tests)

eq_by_cmp-equivalence : IsEquivalence (eq_by_cmp nat_cmp)
eq_by_cmp-equivalence = eq_by_cmp_equiv nat_cmp_total

-- no two places have the same number
abbrev AllPlacesDiffer : List ℕ → Type 0
AllPlacesDiffer numbers = (a b : ℕ) → a < b → b < length numbers → get_or numbers a 0 ≢ get_or numbers b 0

all_places_differ-from_distinct : (numbers : List ℕ) → AreDistinct numbers → AllPlacesDiffer numbers
all_places_differ-from_distinct numbers apart a b less within is =
    true≢false (sym (eq_by_cmp-equivalence.refl (get_or numbers b 0))
    ∙ ap (λ n. eq_by_cmp nat_cmp n (get_or numbers b 0)) (sym is)
    ∙ apart_from_distinct (eq_by_cmp nat_cmp) numbers a b 0 apart less within)

-- ---- the slots

-- a number is in the list
abbrev IsAmong : List ℕ → ℕ → Type 0
IsAmong others number = (j : ℕ) × (j < length others) × (get_or others j 0 ≡ number)

-- each of the first numbers has left its mark or is among the others, and if those differ, all do
pub record AreSlotted (slots others numbers : List ℕ) (i : ℕ) : Type 0 where
  pub full : (k : ℕ) → k < i → mark_in_slot slots (get_or numbers k 0) ≢ 0
  pub placed : (k : ℕ) → k < i → (mark_in_slot slots (get_or numbers k 0) ≡ mark_of (get_or numbers k 0))
      ⊎ IsAmong others (get_or numbers k 0)
  pub apart : AllPlacesDiffer others → (a b : ℕ) → a < b → b < i
      → get_or numbers a 0 ≢ get_or numbers b 0

module _ (slots : List ℕ) (n : ℕ) (within : slot_of (length slots) n < length slots) where
  abbrev slot : ℕ
  slot = slot_of (length slots) n

  -- the mark in a number's slot afterwards
  in_slot-after_set : (m : ℕ) → mark_in_slot (slice_set slots slot (mark_of n)) m
      ≡ get_or (slice_set slots slot (mark_of n)) (slot_of (length slots) m) 0
  in_slot-after_set m = ap (λ (count : ℕ). get_or (slice_set slots slot (mark_of n)) (slot_of count m) 0)
      (length-set slots slot (mark_of n))

  in_slot-other_slot : (m : ℕ) → slot_of (length slots) m ≢ slot
      → mark_in_slot (slice_set slots slot (mark_of n)) m ≡ mark_in_slot slots m
  in_slot-other_slot m other =
      in_slot-after_set m ∙ get_or-set_other slots slot (slot_of (length slots) m) (mark_of n) 0 other

  in_slot-same_slot : (m : ℕ) → slot_of (length slots) m ≡ slot
      → mark_in_slot (slice_set slots slot (mark_of n)) m ≡ mark_of n
  in_slot-same_slot m same =
      in_slot-after_set m ∙ ap (λ (p : ℕ). get_or (slice_set slots slot (mark_of n)) p 0) same
      ∙ get_or-set_same slots slot (mark_of n) 0 within

module _ (slots others numbers : List ℕ) (i : ℕ) (before : AreSlotted slots others numbers i) where
  -- the number after the first ones
  abbrev number : ℕ
  number = get_or numbers i 0

  number-at_last_place : (k : ℕ) → i ≤ k → k < i + 1 → get_or numbers k 0 ≡ number
  number-at_last_place k late less = let is : k ≡ i = omega arith in ap (λ (j : ℕ). get_or numbers j 0) is

  are_slotted-in_slot : slot_of (length slots) number < length slots → mark_in_slot slots number ≡ 0
      → mark_of number ≢ 0
      → AreSlotted (slice_set slots (slot_of (length slots) number) (mark_of number)) others numbers (i + 1)
  are_slotted-in_slot within empty some =
      let place = slot_of (length slots) number in
      -- an earlier one has another slot
      let elsewhere = λ (k : ℕ) (early : k < i)
      (is : slot_of (length slots) (get_or numbers k 0) ≡ place).
      before.full k early (ap (λ (p : ℕ). get_or slots p 0) is ∙ empty) in
      record {
        full = λ k less none. elim (cases_lt k i) [
          | inl early ↦ before.full k early
              (sym (in_slot-other_slot slots number within (get_or numbers k 0) (elsewhere k early)) ∙ none)
          | inr late ↦ some (sym (in_slot-same_slot slots number within (get_or numbers k 0)
              (ap (slot_of (length slots)) (number-at_last_place k late less))) ∙ none)
        ];
        placed = λ k less. elim (cases_lt k i) [
          | inl early ↦ elim (before.placed k early) [
            | inl here ↦ inl
                (in_slot-other_slot slots number within (get_or numbers k 0) (elsewhere k early) ∙ here)
            | inr among ↦ inr among
          ]
          | inr late ↦ inl (in_slot-same_slot slots number within (get_or numbers k 0)
              (ap (slot_of (length slots)) (number-at_last_place k late less))
              ∙ ap mark_of (sym (number-at_last_place k late less)))
        ];
        apart = λ all a b less below is. elim (cases_lt b i) [
          | inl early ↦ before.apart all a b less early is
          | inr late ↦ before.full a (omega arith)
              (ap (mark_in_slot slots) (is ∙ number-at_last_place b late below) ∙ empty)
        ];
      }

  are_slotted-with_others : mark_in_slot slots number ≢ 0 → mark_in_slot slots number ≢ mark_of number
      → AreSlotted slots (others ++ number ∷ []) numbers (i + 1)
  are_slotted-with_others full other =
      let more = others ++ number ∷ [] in
      let size = length-append others (number ∷ []) in
      let kept = λ (j : ℕ) (less : j < length others).
      get_or_append_left others (number ∷ []) 0 j less in
      let last : get_or more (length others) 0 ≡ number =
      get_or-append_right others (number ∷ []) (length others) (length others) 0 refl (omega arith)
      ∙ (let none : length others - length others ≡ 0 = omega arith in
      ap (λ (j : ℕ). get_or (number ∷ []) j 0) none) in
      record {
        full = λ k less none. elim (cases_lt k i) [
          | inl early ↦ before.full k early none
          | inr late ↦ full (ap (mark_in_slot slots) (sym (number-at_last_place k late less)) ∙ none)
        ];
        placed = λ k less. elim (cases_lt k i) [
          | inl early ↦ elim (before.placed k early) [
            | inl here ↦ inl here
            | inr among ↦ inr (among.0, omega (arith, among.1, size), kept among.0 among.1 ∙ among.2)
          ]
          | inr late ↦ inr
              (length others, omega (arith, size), last ∙ sym (number-at_last_place k late less))
        ];
        apart = λ all a b less below is.
            let front : AllPlacesDiffer others = λ x y up within same.
            all x y up (omega (arith, within, size))
            (kept x (omega (arith, up, within)) ∙ same ∙ sym (kept y within)) in
            elim (cases_lt b i) [
              | inl early ↦ before.apart front a b less early is
              | inr late ↦
                  let one = is ∙ number-at_last_place b late below in
                  elim (before.placed a (omega arith)) [
                    | inl here ↦ other (ap (mark_in_slot slots) (sym one) ∙ here ∙ ap mark_of one)
                    | inr among ↦ all among.0 (length others) among.1 (omega (arith, size))
                        (kept among.0 among.1 ∙ among.2 ∙ one ∙ sym last)
                  ]
            ];
      }

  -- one more number that was put
  pub are_slotted-push : (new_slots new_others : List ℕ) → IsPut slots others number new_slots new_others
      → AreSlotted new_slots new_others numbers (i + 1) × (length new_slots ≡ length slots)
  are_slotted-push new_slots new_others (inl put) = (
    subst (λ (o : List ℕ). AreSlotted new_slots o numbers (i + 1)) (sym put.same)
        (subst (λ (s : List ℕ). AreSlotted s others numbers (i + 1)) (sym put.put)
        (are_slotted-in_slot put.within put.empty put.some)),
    ap length put.put ∙ length-set slots (slot_of (length slots) number) (mark_of number),
  )
  are_slotted-push new_slots new_others (inr put) = (
    subst (λ (o : List ℕ). AreSlotted new_slots o numbers (i + 1)) (sym put.put)
        (subst (λ (s : List ℕ). AreSlotted s (others ++ number ∷ []) numbers (i + 1)) (sym put.same)
        (are_slotted-with_others put.full put.other)),
    ap length put.same,
  )

-- if the others ascend in some order, all numbers differ
pub are_distinct-all : (slots others sorted numbers : List ℕ) (i : ℕ) → AreSlotted slots others numbers i
    → length numbers ≤ i → IsPermutation others sorted → IsStrictlyIncreasing sorted
    → AreDistinct numbers
are_distinct-all slots others sorted numbers i placed all moved up =
    let apart : AreDistinct others =
    IsDistinct-IsPermutation (eq_by_cmp nat_cmp) eq_by_cmp-equivalence.symm sorted others
    (IsPermutation-sym others sorted moved)
    (IsDistinct-from_sorted nat_cmp sorted (sorted_from_strictly_increasing sorted up)) in
    IsDistinct-from_apart (eq_by_cmp nat_cmp) numbers (λ a b d less within.
    eq_by_cmp-different (get_or numbers a d) (get_or numbers b d) (λ is.
    placed.apart (all_places_differ-from_distinct others apart) a b less (omega (arith, within, all))
    (get_or_default numbers a 0 d (omega (arith, less, within)) ∙ is
    ∙ get_or_default numbers b d 0 within)))

-- numbers of which each was found less than the next ascend
pub is_strictly_increasing-from_answer : (numbers : List ℕ) (r : Bool)
    → IsAllAdjacentAnswer (λ x y b. b ≡ nat_lt x y) numbers r → r ≡ true
    → IsStrictlyIncreasing numbers
is_strictly_increasing-from_answer numbers true each is = λ k lt.
    ltb-true (get_or numbers k 0) (get_or numbers (k + 1) 0) (sym (each k 0 lt))
is_strictly_increasing-from_answer numbers false each is = absurd cc

-- what an answer `true` shows, where a fault counts as `false`
pub if_ok-from_unwrap_or : {E : Type 0} (found : Result Bool E) (P : Type 0)
    → IfOk found (λ apart. apart ≡ true → P)
    → result_unwrap_or found false ≡ true → P
if_ok-from_unwrap_or (Ok apart) P so is = so is
if_ok-from_unwrap_or (Err e) P so is = absurd cc
