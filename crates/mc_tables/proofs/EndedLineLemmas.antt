-- A line whose end counts as a space: it has the same words as the line with a space behind it.
use Rattle.std.proofs.Common.{◌≡◌, ℕ, ◌+◌, ◌-◌, ◌*◌, ◌/◌, ◌%◌, ◌^◌, ◌<◌, ◌≤◌, min, bit_or, Bool, true, false}
use Rattle.std.proofs.Common.{cond, List, [], ◌∷◌, ◌++◌, length, drop, get_or, inl, inr, refl, sym, ap}
use Rattle.std.proofs.Common.{subst, ◌∙◌, arith, append-nil, length-append}
use Rattle.std.specs.Prelude.{◌==◌, ◌⊎◌, not, filter}
use Rattle.std.specs.Int.{bit_at}
use Rattle.std.specs.List.{slice_split, onto_first}
use Rattle.std.proofs.Math.Pow.{pow-lt}
use Rattle.std.proofs.Math.Seq.{get_or-append_seam}
use Rattle.std.proofs.lemmas.Bool.{cases_lt}
use Rattle.std.proofs.lemmas.List.{drop-append-le, drop-drop, drop_all, length-drop}
use Rattle.std.proofs.lemmas.List.{get_or_append_left}
use Rattle.std.proofs.lemmas.List.Elements.{filter-append}
use Rattle.std.proofs.lemmas.List.Splits.{length-slice_split}
use Rattle.std.proofs.lemmas.Nat.Bits.{bit_at_or, bit_at-pow_other}
use Rattle.mc_text.specs.Lines.{words_of}
use Rattle.mc_tables.specs.Counters.{AreMarks, HasCounters}
use Rattle.mc_tables.proofs.MarkedLemmas.{are_marks-drop}

-- ---- marks

-- the marks of a line are those of the line with a space behind it
pub are_marks-ended : (passes : ℕ → Bool) (line : List ℕ) (m : ℕ) → AreMarks passes line m
    → AreMarks passes (line ++ 32 ∷ []) m
are_marks-ended passes line m marks k set =
    let at = marks k set in (
      omega (arith, at.0, length-append line (32 ∷ [])),
      ap passes (get_or_append_left line (32 ∷ []) 0 k at.0) ∙ at.1,
    )

-- one more may mark that space
pub are_marks-with_end : (line : List ℕ) (m more : ℕ) → AreMarks (λ b. b == 32) line m
    → ((k : ℕ) → bit_at more k ≡ 1 → (bit_at m k ≡ 1) ⊎ (k ≡ length line))
    → AreMarks (λ b. b == 32) (line ++ 32 ∷ []) more
are_marks-with_end line m more marks only k set =
    elim (only k set) [
      | inl old ↦ are_marks-ended (λ b. b == 32) line m marks k old
      | inr is ↦ (
        omega (arith, is, length-append line (32 ∷ [])),
        ap (λ j. get_or (line ++ 32 ∷ []) j 0 == 32) is
            ∙ ap (λ b. b == 32) (get_or-append_seam line 32 [] 0),
      )
    ]

-- the marks of a line's last 32 bytes, without those before a place, are those of what follows that place
pub are_marks-of_end : (passes : ℕ → Bool) (line end rest : List ℕ) (m fewer start before : ℕ)
    → 32 ≤ length line → start ≤ length line → length line < start + 32
    → end ≡ drop (length line - 32) line → rest ≡ drop start line → before + length rest ≡ 32
    → fewer ≡ m / 2 ^ before → AreMarks passes end m → AreMarks passes rest fewer
are_marks-of_end passes line end rest m fewer start before long within few is_end is_rest sum is marks =
    let same : before + (length line - 32) ≡ start =
    omega (arith, long, within, few, sum, ap length is_rest, length-drop start line) in
    let bytes = ap (drop before) is_end ∙ drop-drop before (length line - 32) line
    ∙ ap (λ i. drop i line) (omega (arith, same)) ∙ sym is_rest in
    subst (AreMarks passes rest) (sym is)
    (subst (λ part. AreMarks passes part (m / 2 ^ before)) bytes (are_marks-drop passes end m before marks))

-- a bit that is set in a mask with one more is that one, or was set
pub set_bit-with_mark : (marks place k : ℕ) → place < 32
    → bit_at (bit_or marks (1 * 2 ^ place % 18446744073709551616)) k ≡ 1
    → (bit_at marks k ≡ 1) ⊎ (k ≡ place)
set_bit-with_mark marks place k few set =
    let below : 2 ^ place < 2 ^ 64 = pow-lt {i = place} {j = 64} (omega (arith, few)) in
    let one : 1 * 2 ^ place % 18446744073709551616 ≡ 2 ^ place = omega (arith, below) in
    let is = sym (bit_at_or marks (2 ^ place) k) ∙ ap (λ n. bit_at (bit_or marks n) k) (sym one) ∙ set in
    elim (cases_lt k place) [
      | inl less ↦ inl (omega (arith, is, bit_at-pow_other place k (λ e. omega (arith, less, e))))
      | inr from ↦ elim (cases_lt place k) [
        | inl more ↦ inl (omega (arith, is, bit_at-pow_other place k (λ e. omega (arith, more, e))))
        | inr to ↦ inr (omega (arith, from, to))
      ]
    ]

-- ---- words

-- a space at the end is before one more part without bytes
space_before_last_part : (b : Bool) (x : ℕ) (parts : List (List ℕ)) → 0 < length parts
    → cond b ([] ∷ (parts ++ [] ∷ [])) (onto_first x (parts ++ [] ∷ []))
    ≡ cond b ([] ∷ parts) (onto_first x parts) ++ [] ∷ []
space_before_last_part true x parts some = refl
space_before_last_part false x [] some = absurd (omega (arith, some))
space_before_last_part false x (part ∷ parts) some = refl

slice_split-space_end : (line : List ℕ)
    → slice_split (λ b. b == 32) (line ++ 32 ∷ []) ≡ slice_split (λ b. b == 32) line ++ [] ∷ []
slice_split-space_end [] = refl
slice_split-space_end (x ∷ line) =
    let parts = slice_split (λ b. b == 32) line in
    ap (λ parts. cond (x == 32) ([] ∷ parts) (onto_first x parts)) (slice_split-space_end line)
    ∙ space_before_last_part (x == 32) x parts
    (omega (arith, length-slice_split (λ b. b == 32) line))

-- so a space at the end adds no word
words_of-space_end : (line : List ℕ) → words_of (line ++ 32 ∷ []) ≡ words_of line
words_of-space_end line =
    let some : List ℕ → Bool = λ part. not (length part == 0) in
    ap (filter some) (slice_split-space_end line)
    ∙ filter-append some (slice_split (λ b. b == 32) line) ([] ∷ [])
    ∙ append-nil (words_of line)

-- nor does it after a part of the line
words_of-drop_ended : (line : List ℕ) (n : ℕ)
    → words_of (drop n (line ++ 32 ∷ [])) ≡ words_of (drop (min n (length line)) line)
words_of-drop_ended line n =
    elim (cases_lt (length line) n) [
      | inl past ↦ (
          let size = length-append line (32 ∷ []) in
          let all : min n (length line) ≡ length line = omega (arith, past) in
          ap words_of (drop_all n (line ++ 32 ∷ []) (omega (arith, past, size))
          ∙ sym (ap (λ i. drop i line) all ∙ drop_all (length line) line (omega arith))))
      | inr within ↦ (
          let part : min n (length line) ≡ n = omega (arith, within) in
          ap words_of (drop-append-le n line (32 ∷ []) within) ∙ words_of-space_end (drop n line)
          ∙ ap (λ i. words_of (drop i line)) (sym part))
    ]

-- three counters at the front of the line with a space behind it are the line's first words
pub has_counters-without_end : (line : List ℕ) (n end : ℕ) → end ≡ min n (length line)
    → HasCounters (line ++ 32 ∷ []) (drop n (line ++ 32 ∷ [])) → HasCounters line (drop end line)
has_counters-without_end line n end is has = record {
  packets = has.packets;
  bytes = has.bytes;
  wrong_if = has.wrong_if;
  words = sym (words_of-space_end line) ∙ has.words
      ∙ ap (λ (ws : List (List ℕ)). has.packets ∷ has.bytes ∷ has.wrong_if ∷ ws)
      (words_of-drop_ended line n ∙ ap (λ i. words_of (drop i line)) (sym is));
  packets_count = has.packets_count;
  bytes_count = has.bytes_count;
  wrong_if_count = has.wrong_if_count;
}
