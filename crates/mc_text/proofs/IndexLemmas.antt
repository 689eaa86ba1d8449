-- The slots of an index, and a search in it.
use Rattle.std.proofs.Common.{◌≡◌, ℕ, ◌+◌, ◌<◌, ◌≤◌, Option, Result, List, length, get_or, take}
use Rattle.std.proofs.Common.{sym, ap, subst, ◌∙◌, inl, inr, arith}
use Rattle.std.specs.Prelude.{◌≢◌, ◌↔◌, eqb, slice_set, IfNone, Ok, Err}
use Rattle.std.specs.List.{All, Contains, dedup}
use Rattle.std.specs.List.Sorted.{IsBinarySearchResult, IsPermutation, IsStrictlyIncreasing}
use Rattle.std.specs.Ordering.{nat_cmp}
use Rattle.std.specs.Result.{result_ok}
use Rattle.std.proofs.lemmas.Bool.{cases_eq, cases_lt}
use Rattle.std.proofs.lemmas.List.{get_or_default, get_or-set_same, get_or-set_other, take_more}
use Rattle.std.proofs.lemmas.List.{take_all}
use Rattle.std.proofs.lemmas.List.Elements.{All-contains, All-push}
use Rattle.std.proofs.lemmas.List.Kept.{Contains-dedup_nat, Contains-from_dedup}
use Rattle.std.proofs.lemmas.List.Sorted.{Contains-permutation, IsPermutation-sym, searched}
use Rattle.std.proofs.lemmas.Map.Keys.{non_decreasing_from_sorted, sorted_from_strictly_increasing}
use Rattle.mc_text.specs.Index.{index_slot}

-- among `slots` slots those of the numbers are marked
abbrev pub AreMarkedInSlots : (slots : ℕ) (marks numbers : List ℕ) → Type 0
AreMarkedInSlots slots marks numbers = All (λ number. get_or marks (index_slot slots number) 0 ≢ 0) numbers

-- a number whose slot isn't marked is not among the numbers
pub contains-unmarked_slot : (slots : ℕ) (marks numbers : List ℕ) (number : ℕ)
    → AreMarkedInSlots slots marks numbers
    → get_or marks (index_slot slots number) 0 ≡ 0 → ¬ Contains numbers number
contains-unmarked_slot slots marks numbers number marked empty = λ among.
    All-contains (λ n. get_or marks (index_slot slots n) 0 ≢ 0) numbers number marked among empty

-- a marked slot stays marked when another one is marked
slice_set-stays_marked : (marks : List ℕ) (slot mark at : ℕ) → slot < length marks → mark ≢ 0
    → get_or marks at 0 ≢ 0 → get_or (slice_set marks slot mark) at 0 ≢ 0
slice_set-stays_marked marks slot mark at within some marked =
    elim (cases_eq at slot) [
      | inl same ↦ λ e. some (sym (get_or-set_same marks slot mark 0 within)
          ∙ ap (λ k. get_or (slice_set marks slot mark) k 0) (sym same) ∙ e)
      | inr other ↦ λ e. marked (sym (get_or-set_other marks slot at mark 0 other) ∙ e)
    ]

-- with the slot of one more number marked, the slots of one more are marked
pub marked_in_slots_more : (slots : ℕ) (marks numbers : List ℕ) (i mark slot d : ℕ)
    → AreMarkedInSlots slots marks (take i numbers) → i < length numbers
    → slot ≡ index_slot slots (get_or numbers i d) → slot < length marks → mark ≢ 0
    → AreMarkedInSlots slots (slice_set marks slot mark) (take (i + 1) numbers)
marked_in_slots_more slots marks numbers i mark slot d marked below is within some =
    subst (AreMarkedInSlots slots (slice_set marks slot mark)) (sym (take_more numbers i d below))
    (All-push (λ n. get_or (slice_set marks slot mark) (index_slot slots n) 0 ≢ 0) (take i numbers)
    (get_or numbers i d)
    (λ k e less. slice_set-stays_marked marks slot mark (index_slot slots (get_or (take i numbers) k e))
    within some (marked k e less))
    (λ e. some (sym (get_or-set_same marks slot mark 0 within)
    ∙ ap (λ k. get_or (slice_set marks slot mark) k 0) is ∙ e)))

-- in the end the slots of all numbers are marked
pub marked_in_slots_all : (slots : ℕ) (marks numbers : List ℕ) (i : ℕ) → length numbers ≤ i
    → AreMarkedInSlots slots marks (take i numbers) → AreMarkedInSlots slots marks numbers
marked_in_slots_all slots marks numbers i past marked =
    subst (AreMarkedInSlots slots marks) (take_all i numbers past) marked

-- a number that the search in ascending numbers doesn't find is not among them
pub contains-not_found : (numbers : List ℕ) (number : ℕ) (r : Result ℕ ℕ) (place : Option ℕ)
    → IsStrictlyIncreasing numbers → IsBinarySearchResult (λ n. nat_cmp n number) numbers r
    → place ≡ result_ok r → IfNone place (¬ Contains numbers number)
contains-not_found numbers number (Ok i) place up search is = rw is tt
contains-not_found numbers number (Err i) place up search is =
    let sorted = sorted_from_strictly_increasing numbers up in
    let found = searched numbers number (Err i) search
    (λ j k. non_decreasing_from_sorted numbers sorted j k 0) in
    rw is (λ among.
    let own : get_or numbers among.0 0 ≡ number =
    get_or_default numbers among.0 0 number among.1 ∙ among.2 in
    elim (cases_lt among.0 i) [
      | inl below ↦ omega (arith, found.1 among.0 below, own)
      | inr above ↦ omega (arith, found.2 among.0 above among.1, own)
    ])

-- sorted and without duplicates they are the same numbers
pub contains-dedup_sorted : (numbers sorted kept : List ℕ) → IsPermutation numbers sorted
    → kept ≡ dedup eqb sorted → (number : ℕ) → Contains kept number ↔ Contains numbers number
contains-dedup_sorted numbers sorted kept moved is number = (
  λ among. Contains-permutation sorted numbers number (IsPermutation-sym numbers sorted moved)
      (Contains-from_dedup eqb sorted number (rw is at among)),
  λ among. rw is (Contains-dedup_nat sorted number
      (Contains-permutation numbers sorted number moved among)),
)
