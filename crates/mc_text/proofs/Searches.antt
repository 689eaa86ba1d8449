-- The search for the first element that passes a test, in any list and for any test.
use Rattle.std.proofs.Common.{◌≡◌, ℕ, suc, ◌+◌, ◌-◌, ◌<◌, ◌≤◌, Bool, true, false, List, [], ◌∷◌, ◌++◌}
use Rattle.std.proofs.Common.{length, get_or, take, drop, Some, None, inl, inr, refl, sym, ap, ◌∙◌, arith}
use Rattle.std.specs.Prelude.{position}
use Rattle.std.specs.List.{AllByRecursion, position_or_len, slice_split}
use Rattle.std.proofs.lemmas.Bool.{cases_lt}
use Rattle.std.proofs.lemmas.Bool.Decides.{nat_tests}
use Rattle.std.proofs.lemmas.List.{get_or-take, get_or-drop, length-take, length-drop, length-append}
use Rattle.std.proofs.lemmas.List.Elements.{All-from_recursion}
use Rattle.std.proofs.lemmas.List.Quantifiers.{position-Some}
use Rattle.std.proofs.lemmas.List.Splits.{slice_split_at, slice_split_first, slice_split_none}
use Rattle.std.proofs.lemmas.List.Sums.{fails_before_first, position_or_len_is}

module _ {X : Type 0} (p : X → Bool) where
  -- no element passes the test
  abbrev pub NonePasses : List X → Type 0
  NonePasses xs = AllByRecursion (λ x. p x ≡ false) xs

  -- ---- from places to elements

  -- if the element at no place passes, none does
  pub none_passes-from_each : (xs : List X) (d : X)
      → ((k : ℕ) → k < length xs → p (get_or xs k d) ≡ false) → NonePasses xs
  none_passes-from_each [] d none = tt
  none_passes-from_each (x ∷ xs) d none =
      (none 0 (omega arith), none_passes-from_each xs d (λ k lt. none (suc k) (omega (arith, lt))))

  -- if the search finds nothing, the element at no place passes
  pub fails_at_each : (xs : List X) (d : X) → position p xs ≡ None
      → (k : ℕ) → k < length xs → p (get_or xs k d) ≡ false
  fails_at_each xs d none k lt =
      let past : length xs ≤ position_or_len p xs = grind (arith, nat_tests) in
      fails_before_first p xs k d (omega (arith, past))

  -- if the search finds nothing, no element passes
  pub none_passes-from_position : (xs : List X) → position p xs ≡ None → NonePasses xs
  none_passes-from_position [] none = tt
  none_passes-from_position (x ∷ xs) none =
      none_passes-from_each (x ∷ xs) x (fails_at_each (x ∷ xs) x none)

  -- no element before the found one passes
  pub none_passes-take_position : (xs : List X) (d : X) (end : ℕ) → position p xs ≡ Some end
      → NonePasses (take end xs)
  none_passes-take_position xs d end found =
      let at = position-Some p xs end d found in
      none_passes-from_each (take end xs) d (λ k lt.
      let before : k < end = omega (arith, lt, length-take end xs) in
      ap p (get_or-take end xs k d before) ∙ at.2 k before)

  -- ---- what the search finds

  -- an element that passes, with none before it that does, is found
  pub position-first : (xs : List X) (d : X) (i : ℕ) → i < length xs
      → ((k : ℕ) → k < i → p (get_or xs k d) ≡ false) → p (get_or xs i d) ≡ true
      → position p xs ≡ Some i
  position-first xs d i within none passes =
      let is = position_or_len_is p xs i d (omega arith) none (λ _. passes) in
      grind (arith, nat_tests, is)

  -- where the element at no place passes, nothing is found
  pub position-nowhere : (xs : List X) (d : X)
      → ((k : ℕ) → k < length xs → p (get_or xs k d) ≡ false) → position p xs ≡ None
  position-nowhere xs d none =
      let is = position_or_len_is p xs (length xs) d (omega arith) none (λ less. absurd (omega arith)) in
      grind (arith, nat_tests, is)

  -- where no element passes, the search ends at the list's end
  position_or_len-none_passes : (xs : List X) → NonePasses xs → position_or_len p xs ≡ length xs
  position_or_len-none_passes [] none = refl
  position_or_len-none_passes (x ∷ xs) none =
      rw none.0 (omega (arith, position_or_len-none_passes xs none.1))

  -- where no element passes, nothing is found
  pub position-none_passes : (xs : List X) → NonePasses xs → position p xs ≡ None
  position-none_passes xs none = grind (arith, nat_tests, position_or_len-none_passes xs none)

  -- after elements of which none passes, the search ends at the first one that does
  position_or_len-append_passing : (xs : List X) (x : X) (ys : List X) → NonePasses xs → p x ≡ true
      → position_or_len p (xs ++ x ∷ ys) ≡ length xs
  position_or_len-append_passing [] x ys none passes = rw passes refl
  position_or_len-append_passing (y ∷ xs) x ys none passes =
      rw none.0 (omega (arith, position_or_len-append_passing xs x ys none.1 passes))

  -- behind elements of which none passes, the one that does is found
  pub position-append_passing : (xs : List X) (x : X) (ys : List X) → NonePasses xs → p x ≡ true
      → position p (xs ++ x ∷ ys) ≡ Some (length xs)
  position-append_passing xs x ys none passes =
      grind (arith, nat_tests, position_or_len-append_passing xs x ys none passes, length-append)

  -- ---- a search behind a front that has nothing

  module _ (xs : List X) (d : X) (k : ℕ) (within : k ≤ length xs)
      (none : (j : ℕ) → j < k → p (get_or xs j d) ≡ false) where
    -- the element at a place behind the front, as one of the whole list
    passes-behind : (j : ℕ) → k ≤ j → p (get_or (drop k xs) (j - k) d) ≡ p (get_or xs j d)
    passes-behind j late =
        let there : k + (j - k) ≡ j = omega arith in
        ap p (get_or-drop k xs (j - k) d ∙ ap (λ (i : ℕ). get_or xs i d) there)

    -- what is found behind the front is found in the whole list
    pub position-behind_front : (place : ℕ) → position p (drop k xs) ≡ Some place
        → position p xs ≡ Some (k + place)
    position-behind_front place found =
        let at = position-Some p (drop k xs) place d found in
        position-first xs d (k + place) (omega (arith, at.0, length-drop k xs))
        (λ j less. elim (cases_lt j k) [
          | inl early ↦ none j early
          | inr late ↦ sym (passes-behind j late) ∙ at.2 (j - k) (omega arith)
        ])
        (ap p (sym (get_or-drop k xs place d)) ∙ at.1)

    -- if nothing is found behind the front, nothing is found at all
    pub position-nowhere_behind_front : position p (drop k xs) ≡ None → position p xs ≡ None
    position-nowhere_behind_front nowhere =
        position-nowhere xs d (λ j less. elim (cases_lt j k) [
          | inl early ↦ none j early
          | inr late ↦ sym (passes-behind j late)
              ∙ fails_at_each (drop k xs) d nowhere (j - k) (omega (arith, less, length-drop k xs))
        ])

  -- ---- the parts between the elements that pass

  -- the first element that passes ends the first part
  pub slice_split-found : (xs : List X) (d : X) (end : ℕ) → position p xs ≡ Some end
      → slice_split p xs ≡ take end xs ∷ slice_split p (drop (end + 1) xs)
  slice_split-found xs d end found = grind (arith, nat_tests, slice_split_first p xs d)

  -- where no element passes, the list is the one part
  pub slice_split-none_passes : (xs : List X) → NonePasses xs → slice_split p xs ≡ xs ∷ []
  slice_split-none_passes xs none = slice_split_none p xs (All-from_recursion (λ x. p x ≡ false) xs none)

  -- if nothing is found, the list is the one part
  pub slice_split-not_found : (xs : List X) → position p xs ≡ None → slice_split p xs ≡ xs ∷ []
  slice_split-not_found xs none = slice_split-none_passes xs (none_passes-from_position xs none)

  -- behind elements of which none passes, the one that does ends the first part
  pub slice_split-append_passing : (xs : List X) (x : X) (ys : List X) → NonePasses xs → p x ≡ true
      → slice_split p (xs ++ x ∷ ys) ≡ xs ∷ slice_split p ys
  slice_split-append_passing xs x ys none passes =
      slice_split_at p xs x ys (All-from_recursion (λ y. p y ≡ false) xs none) passes
