-- Outgoing vifs that are printed in seven bytes each.
use Rattle.std.proofs.Common.{◌≡◌, ℕ, ◌+◌, ◌-◌, ◌*◌, ◌/◌, ◌%◌, ◌^◌, ◌<◌, ◌≤◌, Bool, true, false, cond}
use Rattle.std.proofs.Common.{eqb, bit_or, w8, Fits, List, [], ◌∷◌, ◌++◌, length, map, take, drop}
use Rattle.std.proofs.Common.{get_or, Ok, refl, sym, ap, ap₂, subst, ◌∙◌, arith, inl, inr}
use Rattle.std.specs.Prelude.{◌==◌, ◌&&◌, ◌||◌, nat_le, nat_lt}
use Rattle.std.specs.List.{list_all}
use Rattle.std.specs.Char.{is_ascii_digit}
use Rattle.std.specs.Simd.Lanes.{zip2, mask_l, top}
use Rattle.std.proofs.lemmas.Bool.{agree_below_at, and_parts, and_from, cases_Bool, leb-true, le-leb}
use Rattle.std.proofs.lemmas.Bool.{eqb-true}
use Rattle.std.proofs.Math.ListN.{get_or-append}
use Rattle.std.proofs.lemmas.List.{get_or-map, get_or-take, get_or-drop, length-append, length-map}
use Rattle.std.proofs.lemmas.List.{length-take-le}
use Rattle.std.proofs.lemmas.List.{length-drop, drop-drop, append-nil, append_assoc}
use Rattle.std.proofs.lemmas.Simd.{length-zip2, get_or-zip2, bit_mask_l, mask_l-mod}
use Rattle.mc_text.specs.Lines.{words_of}
use Rattle.mc_text.proofs.DigitLaneLemmas.{lane_below, lane_minus}
use Rattle.std.proofs.lemmas.List.{take_rest}
use Rattle.mc_tables.specs.declared.cache.entry.Oif.{Oif}
use Rattle.mc_tables.specs.CacheReading.{oif_in}
use Rattle.mc_tables.specs.OutgoingSteps.{oifs_after_words}
use Rattle.mc_tables.specs.FourOifs.{StartsWithPrintedOif, StartsWithFourOifs, DenoteAscendingOifs}
use Rattle.mc_tables.proofs.PlainRowLemmas.{one_digit_oif_is_first_word, two_digit_oif_is_first_word}
use Rattle.mc_tables.proofs.PlainRowLemmas.{greater_oif_is_appended}
use Rattle.mc_tables.proofs.MarkedLemmas.{cond-one}

-- the vif of its two digits
abbrev printed_vif : ℕ → ℕ → ℕ
printed_vif tens units = tens % 16 * 10 + (units - 48)

-- a line begins with the word of an outgoing vif
abbrev FirstWordIsOif : List ℕ → List ℕ → ℕ → ℕ → Type 0
FirstWordIsOif line behind vif threshold =
    (word : List ℕ) × (words_of line ≡ word ∷ words_of behind) × (oif_in word ≡ Ok (vif, threshold))

-- a vif of one digit
first_word-without_tens : (line : List ℕ) → 7 ≤ length line → StartsWithPrintedOif line
    → (get_or line 1 0 == 32) ≡ true
    → FirstWordIsOif line (drop 7 line) (printed_vif (get_or line 1 0) (get_or line 2 0))
    (get_or line 4 0 - 48)
first_word-without_tens line long printed space =
    let first = eqb-true (get_or line 1 0) 32 space in
    let found = one_digit_oif_is_first_word line long printed.before first printed.units printed.colon
    printed.threshold
    printed.behind printed.last in
    let plain : get_or line 2 0 - 48 ≡ 0 + (get_or line 2 0 - 48) = omega arith in
    let vif : get_or line 2 0 - 48 ≡ printed_vif (get_or line 1 0) (get_or line 2 0) =
    plain ∙ ap (λ t. printed_vif t (get_or line 2 0)) (sym first) in (
      found.0,
      found.1 ∙ ap (λ (r : List ℕ). found.0 ∷ words_of r) (take_rest line 7),
      found.2 ∙ ap (λ (v : ℕ). Ok (v, get_or line 4 0 - 48)) vif,
    )

-- the tens are the digit's lower half
tens_digit-mod_16 : (tens : ℕ) → 49 ≤ tens → tens ≤ 51 → tens - 48 ≡ tens % 16
tens_digit-mod_16 tens low high = omega (arith, low, high)

-- a vif of two digits
first_word-with_tens : (line : List ℕ) → 7 ≤ length line → StartsWithPrintedOif line
    → (get_or line 1 0 == 32) ≡ false
    → printed_vif (get_or line 1 0) (get_or line 2 0) ≤ 31
    → FirstWordIsOif line (drop 7 line) (printed_vif (get_or line 1 0) (get_or line 2 0))
    (get_or line 4 0 - 48)
first_word-with_tens line long printed other few =
    let tens = get_or line 1 0 in
    let units = get_or line 2 0 in
    let range = rw other at printed.tens in
    let parts = and_parts (nat_le 49 tens) (nat_le tens 51) range in
    let low = leb-true 49 tens parts.0 in
    let high = leb-true tens 51 parts.1 in
    let digit : is_ascii_digit tens ≡ true =
    and_from (nat_le 48 tens) (nat_le tens 57) (le-leb 48 tens (omega (arith, low)))
    (le-leb tens 57 (omega (arith, high))) in
    let vif : (tens - 48) * 10 + (units - 48) ≡ printed_vif tens units =
    ap (λ t. t * 10 + (units - 48)) (tens_digit-mod_16 tens low high) in
    let found = two_digit_oif_is_first_word line long printed.before digit printed.units
    (subst (λ v. v ≤ 31) (sym vif) few) printed.colon printed.threshold printed.behind printed.last in (
      found.0,
      found.1 ∙ ap (λ (r : List ℕ). found.0 ∷ words_of r) (take_rest line 7),
      found.2 ∙ ap (λ (v : ℕ). Ok (v, get_or line 4 0 - 48)) vif,
    )

-- the bytes behind a printed outgoing vif
pub bytes_behind_oif : (line : List ℕ) → take (length line - 7) (drop 7 line) ≡ drop 7 line
bytes_behind_oif line = take_rest line 7

-- what is printed is read
pub first_word-printed_oif : (line : List ℕ) → 7 ≤ length line → StartsWithPrintedOif line
    → printed_vif (get_or line 1 0) (get_or line 2 0) ≤ 31
    → FirstWordIsOif line (drop 7 line) (printed_vif (get_or line 1 0) (get_or line 2 0))
    (get_or line 4 0 - 48)
first_word-printed_oif line long printed few =
    elim (cases_Bool (get_or line 1 0 == 32)) [
      | inl space ↦ first_word-without_tens line long printed space
      | inr other ↦ first_word-with_tens line long printed other few
    ]

-- the units and the threshold are digits
pub printed_oif-has_digits : (line : List ℕ) (at : ℕ) → StartsWithPrintedOif (drop at line)
    → (48 ≤ get_or line (at + 2) 0) × (get_or line (at + 2) 0 ≤ 57)
    × (49 ≤ get_or line (at + 4) 0) × (get_or line (at + 4) 0 ≤ 57)
printed_oif-has_digits line at printed =
    let units = and_parts (nat_le 48 _) (nat_le _ 57) printed.units in
    let threshold = and_parts (nat_le 49 _) (nat_le _ 57) printed.threshold in
    let u = get_or-drop at line 2 0 in
    let t = get_or-drop at line 4 0 in (
      subst (λ b. 48 ≤ b) u (leb-true 48 _ units.0),
      subst (λ b. b ≤ 57) u (leb-true _ 57 units.1),
      subst (λ b. 49 ≤ b) t (leb-true 49 _ threshold.0),
      subst (λ b. b ≤ 57) t (leb-true _ 57 threshold.1),
    )

-- so the vif is a byte
pub printed_vif-fits : (line : List ℕ) (at : ℕ) → StartsWithPrintedOif (drop at line)
    → Fits w8 (printed_vif (get_or line (at + 1) 0) (get_or line (at + 2) 0))
printed_vif-fits line at printed =
    let digits = printed_oif-has_digits line at printed in
    record { fits = omega (arith, digits.1) }

-- what is printed at a place is read
pub first_word-printed_oif_at : (line : List ℕ) (at : ℕ) → at + 7 ≤ length line
    → StartsWithPrintedOif (drop at line)
    → printed_vif (get_or line (at + 1) 0) (get_or line (at + 2) 0) ≤ 31
    → FirstWordIsOif (drop at line) (drop (at + 7) line)
    (printed_vif (get_or line (at + 1) 0) (get_or line (at + 2) 0)) (get_or line (at + 4) 0 - 48)
first_word-printed_oif_at line at long printed few =
    let rest = drop at line in
    let t = get_or-drop at line 1 0 in
    let u = get_or-drop at line 2 0 in
    let h = get_or-drop at line 4 0 in
    let vif = ap₂ printed_vif t u in
    let found = first_word-printed_oif rest (omega (arith, long, length-drop at line)) printed
    (subst (λ v. v ≤ 31) (sym vif) few) in (
      found.0,
      found.1 ∙ ap (λ (r : List ℕ). found.0 ∷ words_of r) (drop-drop 7 at line),
      found.2 ∙ ap₂ (λ (v : ℕ) (b : ℕ). Ok (v, b - 48)) vif h,
    )

-- four that ascend are a line's first words
pub first_words-four_oifs : (line : List ℕ) (next : ℕ) (a b c d : Oif)
    → (a.vif ≤ 31 → FirstWordIsOif line (drop 7 line) a.vif a.threshold)
    → (b.vif ≤ 31 → FirstWordIsOif (drop 7 line) (drop 14 line) b.vif b.threshold)
    → (c.vif ≤ 31 → FirstWordIsOif (drop 14 line) (drop 21 line) c.vif c.threshold)
    → (d.vif ≤ 31 → FirstWordIsOif (drop 21 line) (drop 28 line) d.vif d.threshold)
    → next ≤ a.vif → a.vif < b.vif → b.vif < c.vif → c.vif < d.vif → d.vif ≤ 31
    → (words : List (List ℕ)) × (words_of line ≡ words ++ words_of (drop 28 line))
    × DenoteAscendingOifs next words (a ∷ b ∷ c ∷ d ∷ []) (d.vif + 1)
first_words-four_oifs line next a b c d of_a of_b of_c of_d up up_b up_c up_d few =
    let first = of_a (omega (arith, up_b, up_c, up_d, few)) in
    let second = of_b (omega (arith, up_c, up_d, few)) in
    let third = of_c (omega (arith, up_d, few)) in
    let fourth = of_d few in (
      first.0 ∷ second.0 ∷ third.0 ∷ fourth.0 ∷ [],
      first.1 ∙ ap (λ (ws : List (List ℕ)). first.0 ∷ ws)
          (second.1 ∙ ap (λ (ws : List (List ℕ)). second.0 ∷ ws)
          (third.1 ∙ ap (λ (ws : List (List ℕ)). third.0 ∷ ws) fourth.1)),
      (
        first.2,
        up,
        (
          second.2,
          omega (arith, up_b),
          (third.2, omega (arith, up_c), (fourth.2, omega (arith, up_d), refl)),
        ),
      ),
    )

-- outgoing vifs that ascend are added one after another
pub oifs_after_words-ascending : (oifs : List Oif) (next : ℕ) (words : List (List ℕ)) (more : List Oif)
    (end : ℕ)
    (rest : List (List ℕ)) → DenoteAscendingOifs next words more end
    → list_all (λ other. nat_lt other.vif next) oifs ≡ true
    → (oifs_after_words oifs (words ++ rest) ≡ oifs_after_words (oifs ++ more) rest)
    × (list_all (λ other. nat_lt other.vif end) (oifs ++ more) ≡ true)
oifs_after_words-ascending oifs next [] [] end rest ascend lane_below = (
  ap (λ os. oifs_after_words os rest) (sym (append-nil oifs)),
  ap (λ os. list_all (λ other. nat_lt other.vif end) os) (append-nil oifs)
      ∙ ap (λ n. list_all (λ other. nat_lt other.vif n) oifs) ascend ∙ lane_below,
)
oifs_after_words-ascending oifs next (word ∷ words) (oif ∷ more) end rest ascend lane_below =
    let step = greater_oif_is_appended oifs oif next word (words ++ rest) ascend.0 lane_below ascend.1 in
    let others = oifs_after_words-ascending (oifs ++ oif ∷ [])
    (oif.vif + 1) words more end rest ascend.2 step.1 in
    let whole = append_assoc oifs (oif ∷ []) more in (
      step.0 ∙ others.0 ∙ ap (λ os. oifs_after_words os rest) whole,
      ap (λ os. list_all (λ other. nat_lt other.vif end) os) (sym whole) ∙ others.1,
    )
oifs_after_words-ascending oifs next [] (oif ∷ more) end rest ascend lane_below = absurd ascend
oifs_after_words-ascending oifs next (word ∷ words) [] end rest ascend lane_below = absurd ascend

-- ---- the test of all lanes

-- all bits where two bytes are equal, and else none
abbrev equal_lane : ℕ → ℕ → ℕ
equal_lane a b = cond (eqb a b) 255 0

-- what a lane becomes, and whether its top bit is set
abbrev tested_lanes : List ℕ → List ℕ → List ℕ → List ℕ → List ℕ
tested_lanes v least sizes others =
    zip2 bit_or (zip2 lane_below (zip2 lane_minus v least) sizes) (zip2 equal_lane v others)

-- whether the byte is one of so many from the least on, or the other one
abbrev byte_passes : ℕ → ℕ → ℕ → ℕ → Bool
byte_passes least size other b = top 7 (bit_or (lane_below (lane_minus b least) size) (equal_lane b other))

-- they are as many lanes
length-tested_lanes : (lanes : ℕ) (v least sizes others : List ℕ) → length v ≡ lanes → length least ≡ lanes
    → length sizes ≡ lanes → length others ≡ lanes → length (tested_lanes v least sizes others) ≡ lanes
length-tested_lanes lanes v least sizes others a b c d =
    let first = length-zip2 lane_minus v least (a ∙ sym b) ∙ a in
    let second = length-zip2 lane_below (zip2 lane_minus v least) sizes (first ∙ sym c) ∙ first in
    let third = length-zip2 equal_lane v others (a ∙ sym d) ∙ a in
    length-zip2 bit_or _ _ (second ∙ sym third) ∙ second

-- the top bit of a lane is set exactly if its byte passes
get_or-tested_lanes : (lanes : ℕ) (v least sizes others : List ℕ) → length v ≡ lanes → length least ≡ lanes
    → length sizes ≡ lanes → length others ≡ lanes → (k : ℕ) → k < lanes
    → get_or (map (top 7) (tested_lanes v least sizes others)) k false
    ≡ byte_passes (get_or least k 0) (get_or sizes k 0) (get_or others k 0) (get_or v k 0)
get_or-tested_lanes lanes v least sizes others a b c d k within =
    let first = length-zip2 lane_minus v least (a ∙ sym b) ∙ a in
    let second = length-zip2 lane_below (zip2 lane_minus v least) sizes (first ∙ sym c) ∙ first in
    let third = length-zip2 equal_lane v others (a ∙ sym d) ∙ a in
    let size = length-tested_lanes lanes v least sizes others a b c d in
    get_or-map (top 7) (tested_lanes v least sizes others) k 0 false (omega (arith, within, size))
    ∙ ap (top 7)
    (get_or-zip2 bit_or _ _ k 0 0 0 (omega (arith, within, second)) (omega (arith, within, third))
    ∙ ap₂ bit_or
    (get_or-zip2 lane_below _ sizes k 0 0 0 (omega (arith, within, first)) (omega (arith, within, c))
    ∙ ap (λ x. lane_below x (get_or sizes k 0))
    (get_or-zip2 lane_minus v least k 0 0 0 (omega (arith, within, a)) (omega (arith, within, b))))
    (get_or-zip2 equal_lane v others k 0 0 0 (omega (arith, within, a)) (omega (arith, within, d))))

-- if all top bits are set, each lane passes
byte_passes-all_lanes : (lanes full : ℕ) (v least sizes others : List ℕ) → lanes ≤ 64 → length v ≡ lanes
    → length least ≡ lanes → length sizes ≡ lanes → length others ≡ lanes
    → eqb (mask_l (map (top 7) (tested_lanes v least sizes others)) % 2 ^ 64) full ≡ true
    → (k : ℕ) → k < lanes → full / 2 ^ k % 2 ≡ 1
    → byte_passes (get_or least k 0) (get_or sizes k 0) (get_or others k 0) (get_or v k 0) ≡ true
byte_passes-all_lanes lanes full v least sizes others few a b c d all k within bit =
    let tops = map (top 7) (tested_lanes v least sizes others) in
    let size = length-map (tested_lanes v least sizes others) (top 7)
    ∙ length-tested_lanes lanes v least sizes others a b c d in
    let mask = sym (mask_l-mod tops 64 (omega (arith, size, few))) ∙ eqb-true _ full all in
    sym (get_or-tested_lanes lanes v least sizes others a b c d k within)
    ∙ cond-one _ (sym (bit_mask_l tops k) ∙ ap (λ m. m / 2 ^ k % 2) mask ∙ bit)

-- ---- the bytes that are allowed at each place

-- a space
byte_passes-space : (b : ℕ) → b < 256 → byte_passes 32 1 32 b ≡ true → b ≡ 32
byte_passes-space b fits e =
    eqb-true b 32 (sym (agree_below_at (byte_passes 32 1 32) (λ x. x == 32) 256 b refl fits) ∙ e)

-- a space, or 1 to 3
byte_passes-tens : (b : ℕ) → b < 256 → byte_passes 49 3 32 b ≡ true
    → (b == 32 || (nat_le 49 b && nat_le b 51)) ≡ true
byte_passes-tens b fits e =
    sym (agree_below_at (byte_passes 49 3 32) (λ x. x == 32 || (nat_le 49 x && nat_le x 51)) 256 b refl fits)
    ∙ e

-- a digit
byte_passes-units : (b : ℕ) → b < 256 → byte_passes 48 10 48 b ≡ true → is_ascii_digit b ≡ true
byte_passes-units b fits e = sym (agree_below_at (byte_passes 48 10 48) is_ascii_digit 256 b refl fits) ∙ e

-- a colon
byte_passes-colon : (b : ℕ) → b < 256 → byte_passes 58 1 58 b ≡ true → b ≡ 58
byte_passes-colon b fits e =
    eqb-true b 58 (sym (agree_below_at (byte_passes 58 1 58) (λ x. x == 58) 256 b refl fits) ∙ e)

-- 1 to 9
byte_passes-threshold : (b : ℕ) → b < 256 → byte_passes 49 9 49 b ≡ true
    → (nat_le 49 b && nat_le b 57) ≡ true
byte_passes-threshold b fits e =
    sym (agree_below_at (byte_passes 49 9 49) (λ x. nat_le 49 x && nat_le x 57) 256 b refl fits) ∙ e

-- bytes that pass at seven places are a printed outgoing vif
printed_oif-from_bytes : (line : List ℕ) (n : ℕ) → ((k : ℕ) → Fits w8 (get_or line k 0))
    → byte_passes 32 1 32 (get_or line (n + 0) 0) ≡ true → byte_passes 49 3 32 (get_or line (n + 1) 0) ≡ true
    → byte_passes 48 10 48 (get_or line (n + 2) 0) ≡ true → byte_passes 58 1 58 (get_or line (n + 3) 0) ≡ true
    → byte_passes 49 9 49 (get_or line (n + 4) 0) ≡ true → byte_passes 32 1 32 (get_or line (n + 5) 0) ≡ true
    → byte_passes 32 1 32 (get_or line (n + 6) 0) ≡ true → StartsWithPrintedOif (drop n line)
printed_oif-from_bytes line n fits a b c d e f g =
    let at : (k : ℕ) → get_or (drop n line) k 0 ≡ get_or line (n + k) 0 =
    λ k. get_or-drop n line k 0 in
    record {
      before = at 0 ∙ byte_passes-space _ (fits (n + 0)).fits a;
      tens = ap (λ x. x == 32 || (nat_le 49 x && nat_le x 51)) (at 1)
          ∙ byte_passes-tens _ (fits (n + 1)).fits b;
      units = ap is_ascii_digit (at 2) ∙ byte_passes-units _ (fits (n + 2)).fits c;
      colon = at 3 ∙ byte_passes-colon _ (fits (n + 3)).fits d;
      threshold = ap (λ x. nat_le 49 x && nat_le x 57) (at 4)
          ∙ byte_passes-threshold _ (fits (n + 4)).fits e;
      behind = at 5 ∙ byte_passes-space _ (fits (n + 5)).fits f;
      last = at 6 ∙ byte_passes-space _ (fits (n + 6)).fits g;
    }

-- ---- one outgoing vif, by two loads of four bytes, so that its colon is there twice

-- the bytes of the two loads
pub lanes-of_one : (line : List ℕ) → 7 ≤ length line
    → map (λ k. get_or (take 4 line ++ take 4 (drop 3 line)) k 0)
    (0 ∷ 1 ∷ 2 ∷ 3 ∷ 4 ∷ 5 ∷ 6 ∷ 7 ∷ []) ≡ take 4 line ++ take 4 (drop 3 line)
lanes-of_one (b0 ∷ b1 ∷ b2 ∷ b3 ∷ b4 ∷ b5 ∷ b6 ∷ rest) long = refl
lanes-of_one line long = absurd (omega (arith, long))

abbrev least_bytes_of_one : List ℕ
least_bytes_of_one = 32 ∷ 49 ∷ 48 ∷ 58 ∷ 58 ∷ 49 ∷ 32 ∷ 32 ∷ []

abbrev range_sizes_of_one : List ℕ
range_sizes_of_one = 1 ∷ 3 ∷ 10 ∷ 1 ∷ 1 ∷ 9 ∷ 1 ∷ 1 ∷ []

abbrev other_bytes_of_one : List ℕ
other_bytes_of_one = 32 ∷ 32 ∷ 48 ∷ 58 ∷ 58 ∷ 49 ∷ 32 ∷ 32 ∷ []

-- if all lanes pass, a line begins with an outgoing vif
pub printed_oif-from_lanes : (line text : List ℕ) → text ≡ take 4 line ++ take 4 (drop 3 line)
    → 7 ≤ length line → ((k : ℕ) → Fits w8 (get_or line k 0))
    → eqb (mask_l (map (top 7) (tested_lanes text least_bytes_of_one range_sizes_of_one other_bytes_of_one))
    % 2 ^ 64) 255 ≡ true
    → StartsWithPrintedOif line
printed_oif-from_lanes (b0 ∷ b1 ∷ b2 ∷ b3 ∷ b4 ∷ b5 ∷ b6 ∷ rest) text is long fits all =
    let at = λ (k : ℕ) (within : k < 8) (bit : 255 / 2 ^ k % 2 ≡ 1).
    subst (λ (l : List ℕ). byte_passes (get_or least_bytes_of_one k 0) (get_or range_sizes_of_one k 0)
    (get_or other_bytes_of_one k 0) (get_or l k 0) ≡ true) is
    (byte_passes-all_lanes 8 255 text least_bytes_of_one range_sizes_of_one other_bytes_of_one (omega arith)
    (ap length is) refl refl refl all k within bit) in
    record {
      before = byte_passes-space b0 (fits 0).fits (at 0 (omega arith) refl);
      tens = byte_passes-tens b1 (fits 1).fits (at 1 (omega arith) refl);
      units = byte_passes-units b2 (fits 2).fits (at 2 (omega arith) refl);
      colon = byte_passes-colon b3 (fits 3).fits (at 3 (omega arith) refl);
      threshold = byte_passes-threshold b4 (fits 4).fits (at 5 (omega arith) refl);
      behind = byte_passes-space b5 (fits 5).fits (at 6 (omega arith) refl);
      last = byte_passes-space b6 (fits 6).fits (at 7 (omega arith) refl);
    }
printed_oif-from_lanes line text is long fits all = absurd (omega (arith, long))

-- ---- four outgoing vifs

abbrev least_bytes : List ℕ
least_bytes =
    32 ∷ 49 ∷ 48 ∷ 58 ∷ 49 ∷ 32 ∷ 32 ∷ 32 ∷ 49 ∷ 48 ∷ 58 ∷ 49 ∷ 32 ∷ 32 ∷ 32 ∷ 49 ∷ 48 ∷ 58
    ∷ 49 ∷ 32 ∷ 32 ∷ 32 ∷ 49 ∷ 48 ∷ 58 ∷ 49 ∷ 32 ∷ 32 ∷ 0 ∷ 0 ∷ 0 ∷ 0 ∷ []

abbrev range_sizes : List ℕ
range_sizes =
    1 ∷ 3 ∷ 10 ∷ 1 ∷ 9 ∷ 1 ∷ 1 ∷ 1 ∷ 3 ∷ 10 ∷ 1 ∷ 9 ∷ 1 ∷ 1 ∷ 1 ∷ 3 ∷ 10 ∷ 1 ∷ 9 ∷ 1 ∷ 1 ∷ 1
    ∷ 3 ∷ 10 ∷ 1 ∷ 9 ∷ 1 ∷ 1 ∷ 255 ∷ 255 ∷ 255 ∷ 255 ∷ []

abbrev other_bytes : List ℕ
other_bytes =
    32 ∷ 32 ∷ 48 ∷ 58 ∷ 49 ∷ 32 ∷ 32 ∷ 32 ∷ 32 ∷ 48 ∷ 58 ∷ 49 ∷ 32 ∷ 32 ∷ 32 ∷ 32 ∷ 48 ∷ 58
    ∷ 49 ∷ 32 ∷ 32 ∷ 32 ∷ 32 ∷ 48 ∷ 58 ∷ 49 ∷ 32 ∷ 32 ∷ 255 ∷ 255 ∷ 255 ∷ 255 ∷ []

-- whether a byte passes at a place
abbrev byte_passes_at : ℕ → ℕ → Bool
byte_passes_at k b = byte_passes (get_or least_bytes k 0) (get_or range_sizes k 0) (get_or other_bytes k 0) b

-- the bytes of four outgoing vifs, by two loads of sixteen
pub lanes-of_four : (line : List ℕ) → 28 ≤ length line
    → map (λ k. get_or (take 16 line ++ take 16 (drop 12 line)) k 0)
    (0 ∷ 1 ∷ 2 ∷ 3 ∷ 4 ∷ 5 ∷ 6 ∷ 7 ∷ 8 ∷ 9 ∷ 10 ∷ 11 ∷ 12 ∷ 13 ∷ 14 ∷ 15 ∷ 20 ∷ 21 ∷ 22 ∷ 23 ∷ 24 ∷ 25 ∷
    26 ∷ 27 ∷ 28 ∷ 29 ∷ 30 ∷ 31 ∷ 16 ∷ 17 ∷ 18 ∷ 19 ∷ [])
    ≡ take 28 line ++ take 4 (drop 12 line)
lanes-of_four
    (b0 ∷ b1 ∷ b2 ∷ b3 ∷ b4 ∷ b5 ∷ b6 ∷ b7 ∷ b8 ∷ b9 ∷ b10 ∷ b11 ∷ b12 ∷ b13 ∷ b14 ∷ b15 ∷ b16 ∷ b17 ∷
    b18 ∷ b19 ∷ b20 ∷ b21 ∷ b22 ∷ b23 ∷ b24 ∷ b25 ∷ b26 ∷ b27 ∷ rest) long = refl
lanes-of_four line long = absurd (omega (arith, long))

pub four_oifs-from_bytes : (line more text : List ℕ) → text ≡ take 28 line ++ more → length more ≡ 4
    → 28 ≤ length line → ((k : ℕ) → Fits w8 (get_or line k 0))
    → eqb (mask_l (map (top 7) (tested_lanes text least_bytes range_sizes other_bytes)) % 2 ^ 64)
    4294967295 ≡ true → StartsWithFourOifs line
four_oifs-from_bytes line more text is four long fits all =
    let front = length-take-le 28 line long in
    let size : length text ≡ 32 = ap length is
    ∙ omega (arith, length-append (take 28 line) more, front, four) in
    let at : (k : ℕ) → k < 28 → 4294967295 / 2 ^ k % 2 ≡ 1 → byte_passes_at k (get_or line k 0) ≡ true =
    λ k within bit.
    let same = ap (λ l. get_or l k 0) is
    ∙ get_or-append (take 28 line) more 0 k (omega (arith, within, front)) ∙ get_or-take 28 line k 0 within in
    subst (λ b. byte_passes_at k b ≡ true) same
    (byte_passes-all_lanes 32 4294967295 text least_bytes range_sizes other_bytes (omega arith) size refl refl
    refl all k
    (omega (arith, within)) bit) in
    record {
      first = printed_oif-from_bytes line 0 fits (at 0 (omega arith) refl) (at 1 (omega arith) refl)
          (at 2 (omega arith) refl) (at 3 (omega arith) refl) (at 4 (omega arith) refl)
          (at 5 (omega arith) refl) (at 6 (omega arith) refl);
      second = printed_oif-from_bytes line 7 fits (at 7 (omega arith) refl) (at 8 (omega arith) refl)
          (at 9 (omega arith) refl) (at 10 (omega arith) refl) (at 11 (omega arith) refl)
          (at 12 (omega arith) refl) (at 13 (omega arith) refl);
      third = printed_oif-from_bytes line 14 fits (at 14 (omega arith) refl) (at 15 (omega arith) refl)
          (at 16 (omega arith) refl) (at 17 (omega arith) refl) (at 18 (omega arith) refl)
          (at 19 (omega arith) refl) (at 20 (omega arith) refl);
      fourth = printed_oif-from_bytes line 21 fits (at 21 (omega arith) refl) (at 22 (omega arith) refl)
          (at 23 (omega arith) refl) (at 24 (omega arith) refl) (at 25 (omega arith) refl)
          (at 26 (omega arith) refl) (at 27 (omega arith) refl);
    }
