-- The bytes that the bits of a mask mark.
use Rattle.std.proofs.Common.{◌≡◌, ℕ, zero, suc, ◌+◌, ◌-◌, ◌/◌, ◌%◌, ◌^◌, ◌<◌, ◌≤◌, min, bit_and, bit_or}
use Rattle.std.proofs.Common.{Bool, true, false, cond, List, [], ◌∷◌, length, take, drop, get_or, map}
use Rattle.std.proofs.Common.{Fits, w8, w64, refl, sym, ap, ap₂, subst, ◌∙◌, arith, inl, inr, shr-shr}
use Rattle.std.specs.Prelude.{◌==◌, ◌⊎◌, nat_le}
use Rattle.std.specs.Int.{bit_at, bit_not, trailing_ones, trailing_zeros}
use Rattle.std.specs.Char.{is_ascii_digit}
use Rattle.std.specs.List.{list_all}
use Rattle.std.specs.Simd.Lanes.{chunk, mask_l}
use Rattle.std.proofs.lemmas.Bool.{agree_below, agree_below_at, cases_lt, eqb-true, and_parts}
use Rattle.std.proofs.lemmas.Bool.{and_from, le-leb}
use Rattle.std.proofs.lemmas.List.{get_or-drop, get_or_past, get_or-map, get_or-take, length-map}
use Rattle.std.proofs.lemmas.List.{length-drop, length-take-le, drop-drop}
use Rattle.std.proofs.lemmas.List.Elements.{All-from_get_or}
use Rattle.std.proofs.lemmas.List.Sums.{list_all-from_AllPass}
use Rattle.std.proofs.lemmas.Simd.{bit_mask_l, length-chunk, get_or-chunk}
use Rattle.std.proofs.lemmas.Nat.{trailing_le}
use Rattle.std.proofs.lemmas.Nat.Bits.{bit_at-trailing_ones, bit_at-trailing_zeros, bit_at_ones}
use Rattle.std.proofs.lemmas.Nat.Bits.{bit_at-lt, bit_at_and, bit_at_or, bit_at-zero}
use lib.Count.{count_trailing_zeros}
use Rattle.mc_text.specs.Lines.{words_of}
use Rattle.mc_tables.specs.Counters.{AreMarks, AreLastDigits, HasCounters}
use Rattle.mc_tables.specs.TableWords.{is_counter, is_decimal_word}
use Rattle.mc_tables.proofs.PlainRowLemmas.{counter_is_first_word}

-- the lane of a set bit
pub cond-one : (b : Bool) → cond {A = ℕ} b 1 0 ≡ 1 → b ≡ true
cond-one true e = refl
cond-one false e = absurd (omega (arith, e))

-- a bit of the mask of lanes that were tested
mask-lane_passes : (test : ℕ → Bool) (v : List ℕ) (k : ℕ) → bit_at (mask_l (map test v)) k ≡ 1
    → (k < length v) × (test (get_or v k 0) ≡ true)
mask-lane_passes test v k set =
    elim (cases_lt k (length v)) [
      | inl within ↦ (
        within,
        cond-one (test (get_or v k 0))
            (ap (λ b. cond b 1 0) (sym (get_or-map test v k 0 false within))
            ∙ sym (bit_mask_l (map test v) k) ∙ set),
      )
      | inr past ↦ absurd (none_past past)
    ]
  where
    none_past : length v ≤ k → ⊥
    none_past past =
        let none = ap (λ b. cond {A = ℕ} b 1 0)
        (get_or_past (map test v) k false (omega (arith, past, length-map v test))) in
        let bit = bit_mask_l (map test v) k in
        omega (arith, set, none, bit)

-- the mask of a line's first bytes marks those that pass
pub mask-are_marks : (test passes : ℕ → Bool) (line : List ℕ) (m : ℕ) → 32 ≤ length line
    → ((k : ℕ) → Fits w8 (get_or line k 0)) → m ≡ mask_l (map test (chunk 0 32 line))
    → agree_below test passes 256 ≡ true → AreMarks passes line m
mask-are_marks test passes line m long fits is agree k set =
    let lane = mask-lane_passes test (chunk 0 32 line) k (ap (λ n. bit_at n k) (sym is) ∙ set) in
    let size = length-chunk 0 32 line long in
    let within : k < 32 = omega (arith, lane.0, size) in
    let byte = get_or-chunk 0 32 line k 0 within in
    let zero_more : 0 + k ≡ k = omega arith in (
      omega (arith, within, long),
      sym (agree_below_at test passes 256 (get_or line k 0) agree (fits k).fits)
          ∙ ap (λ j. test (get_or line j 0)) (sym zero_more) ∙ ap test (sym byte) ∙ lane.1,
    )

-- `trailing_ones` is a run of set bits
pub trailing_ones-set : (n r k : ℕ) → n < 2 ^ 64 → r ≡ trailing_ones w64 n → k < r → bit_at n k ≡ 1
trailing_ones-set n r k fits is less =
    elim (cases_lt (n + 1) (2 ^ 64)) [
      | inl small ↦ (bit_at-trailing_ones w64 n small).2 k (omega (arith, less, is))
      | inr whole ↦
          let all : n ≡ 2 ^ 64 - 1 = omega (arith, fits, whole) in
          let few = trailing_le 64 (bit_not w64 n) in
          ap (λ m. bit_at m k) all ∙ bit_at_ones 64 k (omega (arith, less, is, few))
    ]

-- the marks of what follows a line's front
pub are_marks-drop : (passes : ℕ → Bool) (line : List ℕ) (m n : ℕ) → AreMarks passes line m
    → AreMarks passes (drop n line) (m / 2 ^ n)
are_marks-drop passes line m n marks k set =
    let at = marks (n + k) (sym (ap (λ x. x % 2) (shr-shr m n k)) ∙ set) in
    (omega (arith, at.0, length-drop n line), ap passes (get_or-drop n line k 0) ∙ at.1)

-- a run of marks is within the line
pub marks_run-within_line : (passes : ℕ → Bool) (line : List ℕ) (m n : ℕ) → AreMarks passes line m
    → ((k : ℕ) → k < n → bit_at m k ≡ 1) → n ≤ length line
marks_run-within_line passes line m zero marks run = omega arith
marks_run-within_line passes line m (suc n) marks run =
    let last = marks n (run n (omega arith)) in omega (arith, last.0)

-- and its bytes pass
marks_run-passes : (passes : ℕ → Bool) (line : List ℕ) (m n : ℕ) → AreMarks passes line m
    → ((k : ℕ) → k < n → bit_at m k ≡ 1) → list_all passes (take n line) ≡ true
marks_run-passes passes line m n marks run =
    let size = length-take-le n line (marks_run-within_line passes line m n marks run) in
    list_all-from_AllPass passes (take n line)
    (All-from_get_or (λ b. passes b ≡ true) (take n line) 0 (λ k within.
    let below : k < n = omega (arith, within, size) in
    rw (get_or-take n line k 0 below) (marks k (run k below)).1))

-- a line has the words that it has after its spaces
words_of-drop_spaces : (n : ℕ) (line : List ℕ) → list_all (λ b. b == 32) (take n line) ≡ true
    → words_of (drop n line) ≡ words_of line
words_of-drop_spaces zero line e = refl
words_of-drop_spaces (suc n) [] e = refl
words_of-drop_spaces (suc n) (b ∷ line) e =
    let p = and_parts (b == 32) _ e in
    words_of-drop_spaces n line p.1 ∙ ap (λ x. words_of (x ∷ line)) (sym (eqb-true b 32 p.0))

pub words_of-drop_marked_spaces : (line : List ℕ) (m n : ℕ) → AreMarks (λ b. b == 32) line m
    → ((k : ℕ) → k < n → bit_at m k ≡ 1) → words_of (drop n line) ≡ words_of line
words_of-drop_marked_spaces line m n marks run =
    words_of-drop_spaces n line (marks_run-passes (λ b. b == 32) line m n marks run)

-- digits and a space after them are a line's first word
pub words_of-marked_counter : (line : List ℕ) (digits spaces n : ℕ) → AreMarks is_ascii_digit line digits
    → AreMarks (λ b. b == 32) line spaces → ((k : ℕ) → k < n → bit_at digits k ≡ 1)
    → bit_at spaces n ≡ 1 → 0 < n → n ≤ 20 → (word : List ℕ)
    × (words_of line ≡ word ∷ words_of (drop n line)) × (is_counter word ≡ true)
words_of-marked_counter line digits spaces n of_digits of_spaces run space some few =
    let word = take n line in
    let all = marks_run-passes is_ascii_digit line digits n of_digits run in
    let size = length-take-le n line (marks_run-within_line is_ascii_digit line digits n of_digits run) in
    let at = of_spaces n space in
    let decimal : is_decimal_word word ≡ true =
    and_from (nat_le 1 (length word)) _ (le-leb 1 (length word) (omega (arith, size, some))) all in
    counter_is_first_word line n decimal few at.0 (eqb-true (get_or line n 0) 32 at.1)

-- ---- counters and the spaces before them

-- `trailing_zeros` is the place of the lowest set bit
pub trailing_zeros-unset : (n k : ℕ) → n < 2 ^ 64 → k < trailing_zeros w64 n → bit_at n k ≡ 0
trailing_zeros-unset zero k fits less = bit_at-zero k
trailing_zeros-unset (suc n) k fits less = (bit_at-trailing_zeros w64 (suc n) (omega arith) fits).2 k less

trailing_zeros-zero : trailing_zeros w64 0 ≡ 64
unfolding count_trailing_zeros
trailing_zeros-zero = refl

pub trailing_zeros-set : (n : ℕ) → n < 2 ^ 64 → trailing_zeros w64 n < 64
    → bit_at n (trailing_zeros w64 n) ≡ 1
trailing_zeros-set zero fits few = absurd (omega (arith, few, trailing_zeros-zero))
trailing_zeros-set (suc n) fits few = (bit_at-trailing_zeros w64 (suc n) (omega arith) fits).1

pub last_digits-are_marks : (digits spaces : ℕ)
    → AreLastDigits digits spaces (bit_and digits (spaces / 2))
last_digits-are_marks digits spaces k =
    let next : 1 + k ≡ k + 1 = omega arith in
    bit_at_and digits (spaces / 2) k
    ∙ ap (min (bit_at digits k)) (ap (λ x. x % 2) (shr-shr spaces 1 k) ∙ ap (bit_at spaces) next)

-- each byte at the front is a digit or a space
abbrev pub AreDigitsOrSpaces : ℕ → ℕ → ℕ → Type 0
AreDigitsOrSpaces digits spaces n = (k : ℕ) → k < n → (bit_at digits k ≡ 1) ⊎ (bit_at spaces k ≡ 1)

-- no digit before a place has a space after it
abbrev HasNoLastDigitBefore : ℕ → ℕ → ℕ → Type 0
HasNoLastDigitBefore digits spaces n = (k : ℕ) → k < n → bit_at digits k ≡ 1 → bit_at spaces (k + 1) ≡ 1 → ⊥

-- from a place on there are spaces, and then digits up to the last one
record SpacesThenDigits (digits spaces from last : ℕ) : Type 0 where
  first : ℕ
  after : from ≤ first
  within : first ≤ last
  are_spaces : (k : ℕ) → from ≤ k → k < first → bit_at spaces k ≡ 1
  are_digits : (k : ℕ) → first ≤ k → k ≤ last → bit_at digits k ≡ 1

-- a digit before them is one more digit
spaces_then_digits-digit : (digits spaces from last : ℕ) → from < last
    → HasNoLastDigitBefore digits spaces last
    → bit_at digits from ≡ 1 → SpacesThenDigits digits spaces (from + 1) last
    → SpacesThenDigits digits spaces from last
spaces_then_digits-digit digits spaces from last below no_end digit split =
    elim (cases_lt (from + 1) split.first) [
      | inl space ↦ absurd (no_end from below digit (split.are_spaces (from + 1) (omega arith) space))
      | inr none ↦ record {
        first = from;
        after = omega arith;
        within = omega (arith, below);
        are_spaces = λ k at less. absurd (omega (arith, at, less));
        are_digits = λ k at most. elim (cases_lt from k) [
          | inl later ↦ split.are_digits k (omega (arith, none, later)) most
          | inr now ↦ (let is : from ≡ k = omega (arith, at, now) in
              subst (λ i. bit_at digits i ≡ 1) is digit)
        ];
      }
    ]

-- a space before them is one more space
spaces_then_digits-space : (digits spaces from last : ℕ) → bit_at spaces from ≡ 1
    → SpacesThenDigits digits spaces (from + 1) last → SpacesThenDigits digits spaces from last
spaces_then_digits-space digits spaces from last space split =
    record {
      first = split.first;
      after = omega (arith, split.after);
      within = split.within;
      are_spaces = λ k at less. elim (cases_lt from k) [
        | inl later ↦ split.are_spaces k (omega (arith, later)) less
        | inr now ↦ (let is : from ≡ k = omega (arith, at, now) in
            subst (λ i. bit_at spaces i ≡ 1) is space)
      ];
      are_digits = split.are_digits;
    }

spaces_then_digits-from : (d digits spaces from last : ℕ) → from + d ≡ last
    → HasNoLastDigitBefore digits spaces last
    → AreDigitsOrSpaces digits spaces last → bit_at digits last ≡ 1 → SpacesThenDigits digits spaces from last
spaces_then_digits-from zero digits spaces from last sum no_end known digit =
    record {
      first = last;
      after = omega (arith, sum);
      within = omega arith;
      are_spaces = λ k at less. absurd (omega (arith, sum, at, less));
      are_digits = λ k at most. (let is : last ≡ k = omega (arith, at, most) in
          subst (λ i. bit_at digits i ≡ 1) is digit);
    }
spaces_then_digits-from (suc d) digits spaces from last sum no_end known digit =
    let others = spaces_then_digits-from d digits spaces (from + 1) last
    (omega (arith, sum)) no_end known digit in
    let below : from < last = omega (arith, sum) in
    elim (known from below) [
      | inl is_digit ↦ spaces_then_digits-digit digits spaces from last below no_end is_digit others
      | inr is_space ↦ spaces_then_digits-space digits spaces from last is_space others
    ]

-- the least of two bits is 1 if both are
min-one : (a b : ℕ) → a < 2 → b < 2 → min a b ≡ 1 → (a ≡ 1) × (b ≡ 1)
min-one a b few_a few_b is = (omega (arith, few_a, few_b, is), omega (arith, few_a, few_b, is))

-- spaces, digits up to the last one and a space after it begin with a counter
words_of-counter_after_spaces : (line : List ℕ) (digits spaces n more end : ℕ)
    → AreMarks is_ascii_digit line digits
    → AreMarks (λ b. b == 32) line spaces → n + more ≡ end → 0 < more → more ≤ 20
    → ((k : ℕ) → k < n → bit_at spaces k ≡ 1) → ((k : ℕ) → k < more → bit_at digits (n + k) ≡ 1)
    → bit_at spaces end ≡ 1 → (word : List ℕ)
    × (words_of line ≡ word ∷ words_of (drop end line)) × (is_counter word ≡ true)
words_of-counter_after_spaces line digits spaces n more end of_digits of_spaces sum some few are_spaces
    are_digits
    space =
    let found = words_of-marked_counter (drop n line) (digits / 2 ^ n) (spaces / 2 ^ n) more
    (are_marks-drop is_ascii_digit line digits n of_digits)
    (are_marks-drop (λ b. b == 32) line spaces n of_spaces)
    (λ k less. ap (λ x. x % 2) (shr-shr digits n k) ∙ are_digits k less)
    (ap (λ x. x % 2) (shr-shr spaces n more) ∙ ap (bit_at spaces) sum ∙ space) some few in
    let behind = drop-drop more n line ∙ ap (λ i. drop i line) sum in (
      found.0,
      sym (words_of-drop_marked_spaces line spaces n of_spaces are_spaces) ∙ found.1
          ∙ ap (λ (r : List ℕ). found.0 ∷ words_of r) behind,
      found.2,
    )

words_of-spaces_then_digits : (line : List ℕ) (digits spaces last : ℕ) → AreMarks is_ascii_digit line digits
    → AreMarks (λ b. b == 32) line spaces → last < 20 → SpacesThenDigits digits spaces 0 last
    → bit_at spaces (last + 1) ≡ 1 → (word : List ℕ)
    × (words_of line ≡ word ∷ words_of (drop (last + 1) line)) × (is_counter word ≡ true)
words_of-spaces_then_digits line digits spaces last of_digits of_spaces few split space =
    words_of-counter_after_spaces line digits spaces split.first (last + 1 - split.first)
    (last + 1) of_digits of_spaces
    (omega (arith, split.within)) (omega (arith, split.within)) (omega (arith, few))
    (λ k less. split.are_spaces k (omega arith) less)
    (λ k less. split.are_digits (split.first + k) (omega arith) (omega (arith, less, split.within)))
    space

no_last_digit-from_lowest : (digits spaces ends last : ℕ) → AreLastDigits digits spaces ends
    → ((k : ℕ) → k < last → bit_at ends k ≡ 0) → HasNoLastDigitBefore digits spaces last
no_last_digit-from_lowest digits spaces ends last are_ends lowest k less digit space =
    let both : min 1 1 ≡ 0 = ap₂ min (sym digit) (sym space) ∙ sym (are_ends k) ∙ lowest k less in
    omega (arith, both)

-- the first word is the counter that ends with the first digit that has a space after it
words_of-first_counter : (line : List ℕ) (digits spaces ends last : ℕ) → AreMarks is_ascii_digit line digits
    → AreMarks (λ b. b == 32) line spaces → AreLastDigits digits spaces ends
    → AreDigitsOrSpaces digits spaces (last + 1) → ((k : ℕ) → k < last → bit_at ends k ≡ 0)
    → bit_at ends last ≡ 1 → last < 20 → (word : List ℕ)
    × (words_of line ≡ word ∷ words_of (drop (last + 1) line)) × (is_counter word ≡ true)
words_of-first_counter line digits spaces ends last of_digits of_spaces are_ends known lowest set few =
    let both = min-one _ _ (bit_at-lt digits last) (bit_at-lt spaces (last + 1))
    (sym (are_ends last) ∙ set) in
    words_of-spaces_then_digits line digits spaces last of_digits of_spaces few
    (spaces_then_digits-from last digits spaces 0 last (omega arith)
    (no_last_digit-from_lowest digits spaces ends last are_ends lowest)
    (λ k less. known k (omega (arith, less))) both.0) both.1

-- ---- what follows that counter, likewise

last_digits-shift : (digits spaces ends n : ℕ) → AreLastDigits digits spaces ends
    → AreLastDigits (digits / 2 ^ n) (spaces / 2 ^ n) (ends / 2 ^ n)
last_digits-shift digits spaces ends n are_ends k =
    let next : n + k + 1 ≡ n + (k + 1) = omega arith in
    ap (λ x. x % 2) (shr-shr ends n k) ∙ are_ends (n + k)
    ∙ ap₂ min (sym (ap (λ x. x % 2) (shr-shr digits n k)))
    (ap (bit_at spaces) next ∙ sym (ap (λ x. x % 2) (shr-shr spaces n (k + 1))))

digits_or_spaces-shift : (digits spaces n m : ℕ) → AreDigitsOrSpaces digits spaces (n + m)
    → AreDigitsOrSpaces (digits / 2 ^ n) (spaces / 2 ^ n) m
digits_or_spaces-shift digits spaces n m known k less =
    elim (known (n + k) (omega (arith, less))) [
      | inl digit ↦ inl (ap (λ x. x % 2) (shr-shr digits n k) ∙ digit)
      | inr space ↦ inr (ap (λ x. x % 2) (shr-shr spaces n k) ∙ space)
    ]

-- each byte in a run of marks is a digit or a space
pub digits_or_spaces-run : (digits spaces n : ℕ) → ((k : ℕ) → k < n → bit_at (bit_or digits spaces) k ≡ 1)
    → AreDigitsOrSpaces digits spaces n
digits_or_spaces-run digits spaces n run k less =
    let is = sym (bit_at_or digits spaces k) ∙ run k less in
    elim (cases_lt 0 (bit_at digits k)) [
      | inl digit ↦ inl (omega (arith, digit, bit_at-lt digits k))
      | inr none ↦ inr (omega (arith, none, is, bit_at-lt spaces k))
    ]

-- three counters are a line's first words
pub has_counters-from_marks : (line : List ℕ) (digits spaces ends a b c : ℕ)
    → AreMarks is_ascii_digit line digits → AreMarks (λ b. b == 32) line spaces
    → AreLastDigits digits spaces ends → AreDigitsOrSpaces digits spaces (a + 1 + (b + 1) + (c + 1))
    → ((k : ℕ) → k < a → bit_at ends k ≡ 0) → bit_at ends a ≡ 1 → a < 20
    → ((k : ℕ) → k < b → bit_at (ends / 2 ^ (a + 1)) k ≡ 0) → bit_at (ends / 2 ^ (a + 1)) b ≡ 1 → b < 20
    → ((k : ℕ) → k < c → bit_at (ends / 2 ^ (a + 1) / 2 ^ (b + 1)) k ≡ 0)
    → bit_at (ends / 2 ^ (a + 1) / 2 ^ (b + 1)) c ≡ 1 → c < 20
    → HasCounters line (drop (a + 1 + (b + 1) + (c + 1)) line)
has_counters-from_marks line digits spaces ends a b c of_digits of_spaces are_ends known low_a set_a few_a
    low_b
    set_b few_b low_c set_c few_c =
    let first = words_of-first_counter line digits spaces ends a of_digits of_spaces are_ends
    (λ k less. known k (omega (arith, less))) low_a set_a few_a in
    let line1 = drop (a + 1) line in
    let digits1 = digits / 2 ^ (a + 1) in
    let spaces1 = spaces / 2 ^ (a + 1) in
    let ends1 = ends / 2 ^ (a + 1) in
    let of_digits1 = are_marks-drop is_ascii_digit line digits (a + 1) of_digits in
    let of_spaces1 = are_marks-drop (λ b. b == 32) line spaces (a + 1) of_spaces in
    let are_ends1 = last_digits-shift digits spaces ends (a + 1) are_ends in
    let known1 = digits_or_spaces-shift digits spaces (a + 1) (b + 1 + (c + 1))
    (λ k less. known k (omega (arith, less))) in
    let second = words_of-first_counter line1 digits1 spaces1 ends1 b of_digits1 of_spaces1 are_ends1
    (λ k less. known1 k (omega (arith, less))) low_b set_b few_b in
    let known2 = digits_or_spaces-shift digits1 spaces1 (b + 1) (c + 1) known1 in
    let third = words_of-first_counter (drop (b + 1) line1) (digits1 / 2 ^ (b + 1)) (spaces1 / 2 ^ (b + 1))
    (ends1 / 2 ^ (b + 1)) c (are_marks-drop is_ascii_digit line1 digits1 (b + 1) of_digits1)
    (are_marks-drop (λ b. b == 32) line1 spaces1 (b + 1) of_spaces1)
    (last_digits-shift digits1 spaces1 ends1 (b + 1) are_ends1) known2 low_c set_c few_c in
    let end : drop (c + 1) (drop (b + 1) line1) ≡ drop (a + 1 + (b + 1) + (c + 1)) line =
    drop-drop (c + 1) (b + 1) line1 ∙ drop-drop (b + 1 + (c + 1)) (a + 1) line
    ∙ ap (λ n. drop n line) (omega arith) in
    record {
      packets = first.0;
      bytes = second.0;
      wrong_if = third.0;
      words = first.1 ∙ ap (λ (ws : List (List ℕ)). first.0 ∷ ws)
          (second.1 ∙ ap (λ (ws : List (List ℕ)). second.0 ∷ ws)
          (third.1 ∙ ap (λ (r : List ℕ). third.0 ∷ words_of r) end));
      packets_count = first.2;
      bytes_count = second.2;
      wrong_if_count = third.2;
    }
