-- A line whose words are read from its front.
use Rattle.std.proofs.Common.{◌≡◌, ℕ, zero, suc, ◌+◌, ◌-◌, ◌*◌, ◌<◌, ◌≤◌, true, false, List, [], ◌∷◌, ◌++◌}
use Rattle.std.proofs.Common.{length, take, drop, get_or, Option, Some, None, Ok}
use Rattle.std.proofs.Common.{refl, sym, ap, ap₂, subst, ◌∙◌, inl, inr, arith}
use Rattle.std.specs.Prelude.{◌==◌, ◌&&◌, Bool, nat_le, nat_lt, not, position, filter, unwrap_or, IfSome}
use Rattle.std.specs.List.{list_all, slice_split}
use Rattle.std.specs.Char.{digit_value, is_ascii_digit}
use Rattle.std.proofs.lemmas.Str.{digit_value_digit}
use Rattle.std.proofs.lemmas.Bool.{cases_Bool, eqb-true, ne_eqb, not-true, not-false, not_from_false}
use Rattle.std.proofs.lemmas.Bool.{and_parts, and_from}
use Rattle.std.proofs.lemmas.Bool.{leb-true, le-leb, ltb-true, lt-ltb}
use Rattle.std.proofs.lemmas.List.Splits.{slice_split_at}
use Rattle.std.proofs.lemmas.List.Sums.{AllPass-from_list_all, list_all-from_AllPass}
use Rattle.std.proofs.lemmas.List.Quantifiers.{position-Some}
use Rattle.std.proofs.lemmas.List.{length-take-le, take-append-drop, drop_more}
use Rattle.std.proofs.lemmas.List.{length-append, append_assoc, take_all, drop_all}
use Rattle.std.proofs.lemmas.List.{get_or-take}
use Rattle.std.proofs.lemmas.List.Folds.{list_all-append}
use Rattle.std.proofs.lemmas.List.Elements.{All-from_get_or}
use Rattle.mc_text.specs.Hex.{is_hex_digit}
use Rattle.mc_text.specs.Lines.{words_of}
use Rattle.mc_text.specs.declared.text.addr.Order.{Order}
use Rattle.mc_text.specs.AddressWord.{printed_octets}
use Rattle.mc_text.proofs.AddrLemmas.{length-printed_octets}
use Rattle.mc_text.proofs.AddressDigitLemmas.{decoded_word_has_eight_digits}
use Rattle.mc_text.proofs.LineLemmas.{words_of-word, words_of-spaces}
use Rattle.mc_text.proofs.Searches.{fails_at_each, position-first, position-nowhere}
use Rattle.std.specs.Prelude.{codes}
use Rattle.std.specs.Str.{bytes_eq}
use Rattle.std.proofs.lemmas.List.{take_rest}
use Rattle.mc_tables.specs.FlatRows.{row_with_oifs}
use Rattle.mc_tables.specs.RowWords.{StartsWithIif}
use Rattle.mc_tables.specs.TableWords.{is_decimal_word, is_counter, number_in, address_in}
use Rattle.mc_tables.specs.declared.cache.entry.Oif.{Oif}
use Rattle.mc_text.specs.Steps.{◌>>=◌}
use Rattle.mc_tables.specs.OutgoingSteps.{oifs_after_words}
use Rattle.mc_tables.specs.CacheTable.{WordDenotesOif}
use Rattle.mc_tables.specs.CacheReading.{oif_in, oifs_in, incoming_in, incoming_number, row_in_words}
use Rattle.mc_tables.proofs.AddressLemmas.{address_in-denotes}
use Rattle.mc_tables.proofs.OifLemmas.{oif_in-from_denotes, oifs_with_word-last}
use Rattle.mc_tables.proofs.WordLemmas.{number_in-denotes}

-- none of the bytes is a space
abbrev pub HasNoSpace : List ℕ → Type 0
HasNoSpace word = list_all (λ b. not (b == 32)) word ≡ true

-- a part of a line that isn't empty is one of its words
filter-word_kept : (word : List ℕ) (parts : List (List ℕ)) → 0 < length word
    → filter (λ part. not (length part == 0)) (word ∷ parts)
    ≡ word ∷ filter (λ part. not (length part == 0)) parts
filter-word_kept word parts some =
    let full : (length word == 0) ≡ false = ne_eqb (length word) 0 (λ is. omega (arith, some, is)) in
    rw full refl

-- bytes without a space and then a space are the first word
pub words_of-first_word : (word more : List ℕ) → HasNoSpace word → 0 < length word
    → words_of (word ++ 32 ∷ more) ≡ word ∷ words_of more
words_of-first_word word more none some =
    ap (filter (λ part. not (length part == 0)))
    (slice_split_at (λ b. b == 32) word 32 more
    (λ k d within. not-true _ (AllPass-from_list_all (λ b. not (b == 32)) word none k d within)) refl)
    ∙ filter-word_kept word (slice_split (λ b. b == 32) more) some

-- bytes that pass a test that a space doesn't pass are no spaces
no_space-from_test : (p : ℕ → Bool) (word : List ℕ) → p 32 ≡ false
    → ((k d : ℕ) → k < length word → p (get_or word k d) ≡ true) → HasNoSpace word
no_space-from_test p word other all =
    list_all-from_AllPass (λ b. not (b == 32)) word (λ k d within.
    not_from_false _ (ne_eqb (get_or word k d) 32
    (λ is. let e : true ≡ false = sym (all k d within) ∙ ap p is ∙ other in absurd cc)))

-- ---- digits

no_space-digits : (word : List ℕ) → list_all is_ascii_digit word ≡ true → HasNoSpace word
no_space-digits word e =
    no_space-from_test is_ascii_digit word refl (AllPass-from_list_all is_ascii_digit word e)

-- so digits and a space are the first word
pub digits_are_first_word : (digits more : List ℕ) → is_decimal_word digits ≡ true
    → words_of (digits ++ 32 ∷ more) ≡ digits ∷ words_of more
digits_are_first_word digits more e =
    let p = and_parts (nat_le 1 (length digits)) _ e in
    words_of-first_word digits more (no_space-digits digits p.1) (leb-true 1 (length digits) p.0)

-- the bytes before the first that isn't a digit are digits
list_all-digits_before : (line : List ℕ) (end : ℕ) → position (λ b. not (is_ascii_digit b)) line ≡ Some end
    → list_all is_ascii_digit (take end line) ≡ true
list_all-digits_before line end e =
    let first = position-Some (λ b. not (is_ascii_digit b)) line end 0 e in
    let size = length-take-le end line (omega (arith, first.0)) in
    list_all-from_AllPass is_ascii_digit (take end line)
    (All-from_get_or (λ c. is_ascii_digit c ≡ true) (take end line) 0 (λ k within.
    let below : k < end = omega (arith, within, size) in
    rw (get_or-take end line k 0 below) (not-false _ (first.2 k below))))

pub front_digits_are_decimal : (line : List ℕ) (end : ℕ)
    → position (λ b. not (is_ascii_digit b)) line ≡ Some end
    → (end ≡ 0 → ⊥) → is_decimal_word (take end line) ≡ true
front_digits_are_decimal line end e some =
    let first = position-Some (λ b. not (is_ascii_digit b)) line end 0 e in
    let size = length-take-le end line (omega (arith, first.0)) in
    and_from (nat_le 1 (length (take end line))) _
    (le-leb 1 (length (take end line)) (omega (arith, size, some))) (list_all-digits_before line end e)

-- digits and a space after them are a line's first word
pub words_of-digits : (line : List ℕ) (end : ℕ) → is_decimal_word (take end line) ≡ true → end < length line
    → get_or line end 0 ≡ 32 → words_of line ≡ take end line ∷ words_of (drop end line)
words_of-digits line end decimal within space =
    let behind : drop end line ≡ 32 ∷ drop (end + 1) line =
    drop_more line end 0 within ∙ ap (λ b. b ∷ drop (end + 1) line) space in
    ap words_of (sym (take-append-drop end line) ∙ ap (λ rest. take end line ++ rest) behind)
    ∙ digits_are_first_word (take end line) (drop (end + 1) line) decimal
    ∙ ap (λ (r : List ℕ). take end line ∷ words_of r) (sym behind)

-- decimal digits have no `-` at their front
is_counter-decimal : (word : List ℕ) → is_decimal_word word ≡ true → length word ≤ 20
    → is_counter word ≡ true
is_counter-decimal [] e few = absurd cc
is_counter-decimal (c ∷ word) e few =
    let p = and_parts (nat_le 1 (length (c ∷ word))) _ e in
    let digit = and_parts (is_ascii_digit c) _ p.1 in
    let other : (c == 45) ≡ false =
    ne_eqb c 45 (λ is. let wrong = subst (λ b. is_ascii_digit b ≡ true) is digit.0 in cc) in
    rw other (and_from _ _ (and_from _ _ p.0 (le-leb (length (c ∷ word)) 20 few)) p.1)

-- at most twenty are a counter
pub counter_is_first_word : (line : List ℕ) (end : ℕ) → is_decimal_word (take end line) ≡ true → end ≤ 20
    → end < length line → get_or line end 0 ≡ 32 → (counter : List ℕ)
    × (words_of line ≡ counter ∷ words_of (drop end line)) × (is_counter counter ≡ true)
counter_is_first_word line end decimal few within space =
    let size = length-take-le end line (omega (arith, within)) in (
      take end line,
      words_of-digits line end decimal within space,
      is_counter-decimal (take end line) decimal (omega (arith, size, few)),
    )

-- digits up to a line's end are its only word
pub counter_is_whole_line : (line : List ℕ) → position (λ b. not (is_ascii_digit b)) line ≡ None
    → 0 < length line → length line ≤ 20 → (counter : List ℕ)
    × (words_of line ≡ counter ∷ words_of []) × (is_counter counter ≡ true)
counter_is_whole_line line none some few =
    let digit : (k : ℕ) → k < length line → is_ascii_digit (get_or line k 0) ≡ true =
    λ k within. not-false _ (fails_at_each (λ b. not (is_ascii_digit b)) line 0 none k within) in
    let no_space : (k : ℕ) → k < length line → (get_or line k 0 == 32) ≡ false =
    λ k within. ne_eqb (get_or line k 0) 32
    (λ is. let e : true ≡ false = sym (digit k within) ∙ ap is_ascii_digit is in absurd cc) in
    let begins = position-first (λ b. not (b == 32)) line 0 0 some (λ k less. absurd (omega (arith, less)))
    (not_from_false _ (no_space 0 some)) in
    let ends = position-nowhere (λ b. b == 32) line 0 no_space in
    let all = list_all-from_AllPass is_ascii_digit line
    (All-from_get_or (λ c. is_ascii_digit c ≡ true) line 0 digit) in
    let decimal : is_decimal_word line ≡ true =
    and_from (nat_le 1 (length line)) _ (le-leb 1 (length line) (omega (arith, some))) all in
    let size : length line ≡ unwrap_or (position (λ b. b == 32) line) (length line) = rw ends refl in (
      line,
      words_of-word line line 0 (length line) begins refl size
          ∙ ap₂ (λ w r. w ∷ words_of r) (take_all (length line) line (omega arith))
          (drop_all (length line) line (omega arith)),
      is_counter-decimal line decimal few,
    )

-- ---- spaces

-- a line has the words that it has from its first byte on that isn't a space
pub words_of_without_spaces : (line : List ℕ) (start : ℕ) → position (λ b. not (b == 32)) line ≡ Some start
    → words_of (drop start line) ≡ words_of line
words_of_without_spaces line start e =
    let at = position-Some (λ b. not (b == 32)) line start 0 e in
    let from = drop start line in
    let begins : position (λ b. not (b == 32)) from ≡ Some 0 =
    rw (drop_more line start 0 at.0, at.1, le-leb 1 (suc (length (drop (start + 1) line))) (omega arith))
    refl in
    let end = unwrap_or (position (λ b. b == 32) from) (length from) in
    words_of-word from from 0 end begins refl refl
    ∙ sym (words_of-word line from start end e refl refl)

-- a line of spaces has no words
pub words_of_spaces : (line : List ℕ) → position (λ b. not (b == 32)) line ≡ None
    → words_of [] ≡ words_of line
words_of_spaces line e = sym (words_of-spaces line e)

-- ---- an address

-- a digit at each of eight places
is_hex_digit-at : (word : List ℕ) → ((k : ℕ) → k < 7
    → (is_hex_digit (get_or word k 0) && is_hex_digit (get_or word (k + 1) 0)) ≡ true) → (k : ℕ)
    → k < 8 → is_hex_digit (get_or word k 0) ≡ true
is_hex_digit-at word both zero less = (and_parts _ _ (both 0 (omega arith))).0
is_hex_digit-at word both (suc k) less =
    let next : k + 1 ≡ suc k = omega arith in
    subst (λ n. is_hex_digit (get_or word n 0) ≡ true) next
    (and_parts _ _ (both k (omega (arith, less)))).1

-- eight bytes that denote an address have no space
no_space-address : (order : Order) (word : List ℕ) (a : ℕ) → address_in order word ≡ Some a
    → (length word ≡ 8) × HasNoSpace word
no_space-address order word a e =
    let printed = address_in-denotes order word a e in
    let digits = decoded_word_has_eight_digits word (printed_octets order a)
    (length-printed_octets order a) printed.1 in (
      digits.0,
      no_space-from_test is_hex_digit word refl
          (All-from_get_or (λ c. is_hex_digit c ≡ true) word 0 (λ k within.
          is_hex_digit-at word digits.1 k (omega (arith, within, digits.0)))),
    )

-- so they and a space after them are the first word
pub words_of-address : (order : Order) (line : List ℕ) (a : ℕ) → 9 ≤ length line
    → get_or line 8 0 ≡ 32 → address_in order (take 8 line) ≡ Some a
    → words_of line ≡ take 8 line ∷ words_of (drop 9 line)
words_of-address order line a long space e =
    let word = no_space-address order (take 8 line) a e in
    let behind : drop 8 line ≡ 32 ∷ drop 9 line =
    drop_more line 8 0 (omega (arith, long)) ∙ ap (λ b. b ∷ drop 9 line) space in
    ap words_of (sym (take-append-drop 8 line) ∙ ap (λ rest. take 8 line ++ rest) behind)
    ∙ words_of-first_word (take 8 line) (drop 9 line) word.1 (omega (arith, word.0))

pub address_is_first_word : (order : Order) (line : List ℕ) (read : Option ℕ) → 8 < length line
    → get_or line 8 0 ≡ 32 → read ≡ address_in order (take 8 line)
    → IfSome read (λ _. words_of line ≡ take 8 line ∷ words_of (drop 9 line))
address_is_first_word order line None long space is = tt
address_is_first_word order line (Some a) long space is =
    words_of-address order line a (omega (arith, long)) space (sym is)

-- ---- an outgoing vif

-- digits, a colon, digits and a space are a first word that denotes an outgoing vif
pub words_of-oif : (line vif rest threshold after : List ℕ) (v t : ℕ) → line ≡ vif ++ 58 ∷ rest
    → rest ≡ threshold ++ 32 ∷ after → is_decimal_word vif ≡ true → is_decimal_word threshold ≡ true
    → number_in 0 31 vif ≡ Some v → number_in 1 254 threshold ≡ Some t
    → (word : List ℕ) × (words_of line ≡ word ∷ words_of after) × (oif_in word ≡ Ok (v, t))
words_of-oif line vif rest threshold after v t line_is rest_is of_vif of_threshold vif_is threshold_is =
    let word = vif ++ 58 ∷ threshold in
    let writes : WordDenotesOif word (v, t) = record {
      vif = vif;
      threshold = threshold;
      colon = refl;
      vif_number = number_in-denotes 0 31 vif v vif_is;
      threshold_number = number_in-denotes 1 254 threshold t threshold_is;
    } in
    let first = no_space-digits vif (and_parts (nat_le 1 (length vif)) _ of_vif).1 in
    let second = no_space-digits threshold (and_parts (nat_le 1 (length threshold)) _ of_threshold).1 in
    let none : HasNoSpace word =
    list_all-append (λ b. not (b == 32)) vif (58 ∷ threshold) ∙ rw (first, second) refl in
    let size = length-append vif (58 ∷ threshold) in (
      word,
      ap words_of (line_is ∙ ap (λ r. vif ++ 58 ∷ r) rest_is
          ∙ sym (append_assoc vif (58 ∷ threshold) (32 ∷ after)))
          ∙ words_of-first_word word after none (omega (arith, size)),
      oif_in-from_denotes word (v, t) writes,
    )

add-zero_left : (n : ℕ) → 0 + n ≡ n
add-zero_left n = omega arith

-- one digit is a number
number_in-one_digit : (least most c : ℕ) → is_ascii_digit c ≡ true → least ≤ c - 48 → c - 48 ≤ most
    → number_in least most (c ∷ []) ≡ Some (c - 48)
number_in-one_digit least most c digit low high =
    let range = and_parts (nat_le 48 c) (nat_le c 57) digit in
    let value : digit_value c ≡ c - 48 =
    (let e = digit_value_digit c (leb-true 48 c range.0, leb-true c 57 range.1) in omega (arith, e)) in
    rw (digit, value, add-zero_left (c - 48), le-leb least (c - 48) low, le-leb (c - 48) most high) refl

-- a digit, a colon, a digit other than 0 and a space are a first word that denotes an outgoing vif
pub words_of-one_digit_oif : (vif threshold : ℕ) (after : List ℕ) → is_ascii_digit vif ≡ true
    → (nat_le 49 threshold && nat_le threshold 57) ≡ true → (word : List ℕ)
    × (words_of (vif ∷ 58 ∷ threshold ∷ 32 ∷ after) ≡ word ∷ words_of after)
    × (oif_in word ≡ Ok (vif - 48, threshold - 48))
words_of-one_digit_oif vif threshold after of_vif of_threshold =
    let v = and_parts (nat_le 48 vif) (nat_le vif 57) of_vif in
    let t = and_parts (nat_le 49 threshold) (nat_le threshold 57) of_threshold in
    let low = leb-true 49 threshold t.0 in
    let high = leb-true threshold 57 t.1 in
    let digit : is_ascii_digit threshold ≡ true =
    and_from (nat_le 48 threshold) (nat_le threshold 57) (le-leb 48 threshold (omega (arith, low))) t.1 in
    let top = leb-true vif 57 v.1 in
    words_of-oif (vif ∷ 58 ∷ threshold ∷ 32 ∷ after) (vif ∷ []) (threshold ∷ 32 ∷ after) (threshold ∷ [])
    after (vif - 48) (threshold - 48) refl refl (rw of_vif refl) (rw digit refl)
    (number_in-one_digit 0 31 vif of_vif (omega arith) (omega (arith, top)))
    (number_in-one_digit 1 254 threshold digit (omega (arith, low)) (omega (arith, high)))

pub one_digit_oif_is_first_word : (line : List ℕ) → 7 ≤ length line → get_or line 0 0 ≡ 32
    → get_or line 1 0 ≡ 32
    → is_ascii_digit (get_or line 2 0) ≡ true → get_or line 3 0 ≡ 58
    → (nat_le 49 (get_or line 4 0) && nat_le (get_or line 4 0) 57) ≡ true → get_or line 5 0 ≡ 32
    → get_or line 6 0 ≡ 32 → (word : List ℕ)
    × (words_of line ≡ word ∷ words_of (take (length line - 7) (drop 7 line)))
    × (oif_in word ≡ Ok (get_or line 2 0 - 48, get_or line 4 0 - 48))
one_digit_oif_is_first_word
    (s ∷ t ∷ a ∷ b ∷ c ∷ d ∷ e ∷ rest) long first second of_vif colon of_threshold third last =
    let found = words_of-one_digit_oif a c (32 ∷ rest) of_vif of_threshold in (
      found.0,
      ap (λ x. words_of (x ∷ t ∷ a ∷ b ∷ c ∷ d ∷ e ∷ rest)) first
          ∙ ap (λ x. words_of (32 ∷ x ∷ a ∷ b ∷ c ∷ d ∷ e ∷ rest)) second
          ∙ ap (λ x. words_of (a ∷ x ∷ c ∷ d ∷ e ∷ rest)) colon
          ∙ ap (λ x. words_of (a ∷ 58 ∷ c ∷ x ∷ e ∷ rest)) third
          ∙ ap (λ x. words_of (a ∷ 58 ∷ c ∷ 32 ∷ x ∷ rest)) last ∙ found.1
          ∙ ap (λ (r : List ℕ). found.0 ∷ words_of r)
          (sym (take_rest (s ∷ t ∷ a ∷ b ∷ c ∷ d ∷ e ∷ rest) 7)),
      found.2,
    )
one_digit_oif_is_first_word line long first second of_vif colon of_threshold third last = grind arith

-- two digits are a number
number_in-two_digits : (most c d : ℕ) → is_ascii_digit c ≡ true → is_ascii_digit d ≡ true
    → (c - 48) * 10 + (d - 48) ≤ most
    → number_in 0 most (c ∷ d ∷ []) ≡ Some ((c - 48) * 10 + (d - 48))
number_in-two_digits most c d first second high =
    let tens = and_parts (nat_le 48 c) (nat_le c 57) first in
    let units = and_parts (nat_le 48 d) (nat_le d 57) second in
    let of_tens : digit_value c ≡ c - 48 =
    (let e = digit_value_digit c (leb-true 48 c tens.0, leb-true c 57 tens.1) in omega (arith, e)) in
    let of_units : digit_value d ≡ d - 48 =
    (let e = digit_value_digit d (leb-true 48 d units.0, leb-true d 57 units.1) in omega (arith, e)) in
    rw (
      first,
      second,
      of_tens,
      of_units,
      add-zero_left (c - 48),
      le-leb 0 ((c - 48) * 10 + (d - 48)) (omega arith),
      le-leb ((c - 48) * 10 + (d - 48)) most high,
    ) refl

-- and they, a colon, a digit other than 0 and spaces are a first word that denotes an outgoing vif
pub two_digit_oif_is_first_word : (line : List ℕ) → 7 ≤ length line → get_or line 0 0 ≡ 32
    → is_ascii_digit (get_or line 1 0) ≡ true → is_ascii_digit (get_or line 2 0) ≡ true
    → (get_or line 1 0 - 48) * 10 + (get_or line 2 0 - 48) ≤ 31 → get_or line 3 0 ≡ 58
    → (nat_le 49 (get_or line 4 0) && nat_le (get_or line 4 0) 57) ≡ true → get_or line 5 0 ≡ 32
    → get_or line 6 0 ≡ 32 → (word : List ℕ)
    × (words_of line ≡ word ∷ words_of (take (length line - 7) (drop 7 line)))
    × (oif_in word ≡ Ok ((get_or line 1 0 - 48) * 10 + (get_or line 2 0 - 48), get_or line 4 0 - 48))
two_digit_oif_is_first_word
    (s ∷ a ∷ b ∷ c ∷ d ∷ e ∷ f ∷ rest) long first tens units top colon of_threshold third last =
    let t = and_parts (nat_le 49 d) (nat_le d 57) of_threshold in
    let low = leb-true 49 d t.0 in
    let high = leb-true d 57 t.1 in
    let digit : is_ascii_digit d ≡ true =
    and_from (nat_le 48 d) (nat_le d 57) (le-leb 48 d (omega (arith, low))) t.1 in
    let found = words_of-oif (a ∷ b ∷ 58 ∷ d ∷ 32 ∷ 32 ∷ rest) (a ∷ b ∷ []) (d ∷ 32 ∷ 32 ∷ rest) (d ∷ [])
    (32 ∷ rest) ((a - 48) * 10 + (b - 48)) (d - 48) refl refl (rw (tens, units) refl)
    (rw digit refl) (number_in-two_digits 31 a b tens units top)
    (number_in-one_digit 1 254 d digit (omega (arith, low)) (omega (arith, high))) in (
      found.0,
      ap (λ x. words_of (x ∷ a ∷ b ∷ c ∷ d ∷ e ∷ f ∷ rest)) first
          ∙ ap (λ x. words_of (a ∷ b ∷ x ∷ d ∷ e ∷ f ∷ rest)) colon
          ∙ ap (λ x. words_of (a ∷ b ∷ 58 ∷ d ∷ x ∷ f ∷ rest)) third
          ∙ ap (λ x. words_of (a ∷ b ∷ 58 ∷ d ∷ 32 ∷ x ∷ rest)) last ∙ found.1
          ∙ ap (λ (r : List ℕ). found.0 ∷ words_of r)
          (sym (take_rest (s ∷ a ∷ b ∷ c ∷ d ∷ e ∷ f ∷ rest) 7)),
      found.2,
    )
two_digit_oif_is_first_word line long first tens units top colon of_threshold third last = grind arith

-- ---- an incoming vif

-- a digit and two spaces are a first word that denotes an incoming vif
one_digit_iif_is_first_word : (line : List ℕ) → 3 ≤ length line → is_ascii_digit (get_or line 0 0) ≡ true
    → get_or line 1 0 ≡ 32 → get_or line 2 0 ≡ 32 → (word : List ℕ)
    × (words_of line ≡ word ∷ words_of (take (length line - 3) (drop 3 line)))
    × (is_decimal_word word ≡ true) × (number_in 0 31 word ≡ Some (get_or line 0 0 - 48))
one_digit_iif_is_first_word (a ∷ b ∷ c ∷ rest) long digit first second =
    let range = and_parts (nat_le 48 a) (nat_le a 57) digit in
    let top = leb-true a 57 range.1 in
    let decimal : is_decimal_word (a ∷ []) ≡ true = rw digit refl in (
      a ∷ [],
      ap (λ x. words_of (a ∷ x ∷ c ∷ rest)) first ∙ ap (λ x. words_of (a ∷ 32 ∷ x ∷ rest)) second
          ∙ digits_are_first_word (a ∷ []) (32 ∷ rest) decimal
          ∙ ap (λ (r : List ℕ). (a ∷ []) ∷ words_of r) (sym (take_rest (a ∷ b ∷ c ∷ rest) 3)),
      decimal,
      number_in-one_digit 0 31 a digit (omega arith) (omega (arith, top)),
    )
one_digit_iif_is_first_word line long digit first second = grind arith

-- and so are two digits and a space
two_digit_iif_is_first_word : (line : List ℕ) → 3 ≤ length line → is_ascii_digit (get_or line 0 0) ≡ true
    → is_ascii_digit (get_or line 1 0) ≡ true
    → (get_or line 0 0 - 48) * 10 + (get_or line 1 0 - 48) ≤ 31 → get_or line 2 0 ≡ 32
    → (word : List ℕ) × (words_of line ≡ word ∷ words_of (take (length line - 3) (drop 3 line)))
    × (is_decimal_word word ≡ true)
    × (number_in 0 31 word ≡ Some ((get_or line 0 0 - 48) * 10 + (get_or line 1 0 - 48)))
two_digit_iif_is_first_word (a ∷ b ∷ c ∷ rest) long tens units top space =
    let decimal : is_decimal_word (a ∷ b ∷ []) ≡ true = rw (tens, units) refl in (
      a ∷ b ∷ [],
      ap (λ x. words_of (a ∷ b ∷ x ∷ rest)) space ∙ digits_are_first_word (a ∷ b ∷ []) rest decimal
          ∙ ap (λ (r : List ℕ). (a ∷ b ∷ []) ∷ words_of r) (sym (take_rest (a ∷ b ∷ c ∷ rest) 3)),
      decimal,
      number_in-two_digits 31 a b tens units top,
    )
two_digit_iif_is_first_word line long tens units top space = grind arith

-- so the incoming vif, whichever of the two it is
pub iif_is_first_word : (line : List ℕ) (iif : ℕ) → 3 ≤ length line → StartsWithIif line → iif ≤ 31
    → (get_or line 1 0 ≡ 32 → iif ≡ get_or line 0 0 - 48)
    → (is_ascii_digit (get_or line 1 0) ≡ true
    → iif ≡ (get_or line 0 0 - 48) * 10 + (get_or line 1 0 - 48))
    → (word : List ℕ) × (words_of line ≡ word ∷ words_of (take (length line - 3) (drop 3 line)))
    × (is_decimal_word word ≡ true) × (number_in 0 31 word ≡ Some iif)
iif_is_first_word line iif long starts top one two =
    elim (cases_Bool (get_or line 1 0 == 32)) [
      | inl space ↦
          let second = eqb-true (get_or line 1 0) 32 space in
          rw (one second) (one_digit_iif_is_first_word line long starts.first second starts.behind)
      | inr other ↦
          let second : is_ascii_digit (get_or line 1 0) ≡ true = rw other at starts.second in
          let is = two second in
          rw is (two_digit_iif_is_first_word line long starts.first second (omega (arith, is, top))
          starts.behind)
    ]

-- a number for a vif is at most 31
pub vif_in_range : (word : List ℕ) (v : ℕ) → number_in 0 31 word ≡ Some v → v ≤ 31
vif_in_range word v e = (number_in-denotes 0 31 word v e).2

-- what is below a number is below a greater one
all_below-greater : (oifs : List Oif) (next vif : ℕ)
    → list_all (λ other. nat_lt other.vif next) oifs ≡ true → next ≤ vif
    → list_all (λ other. nat_lt other.vif vif) oifs ≡ true
all_below-greater [] next vif all up = refl
all_below-greater (oif ∷ oifs) next vif all up =
    let p = and_parts (nat_lt oif.vif next) _ all in
    let less = ltb-true oif.vif next p.0 in
    and_from (nat_lt oif.vif vif) _ (lt-ltb oif.vif vif (omega (arith, less, up)))
    (all_below-greater oifs next vif p.1 up)

-- one more outgoing vif that is greater than the others
pub greater_oif_is_appended : (oifs : List Oif) (oif : Oif) (next : ℕ) (word : List ℕ) (words : List (List ℕ))
    → oif_in word ≡ Ok (oif.vif, oif.threshold)
    → list_all (λ other. nat_lt other.vif next) oifs ≡ true → next ≤ oif.vif
    → (oifs_after_words oifs (word ∷ words) ≡ oifs_after_words (oifs ++ oif ∷ []) words)
    × (list_all (λ other. nat_lt other.vif (oif.vif + 1)) (oifs ++ oif ∷ []) ≡ true)
greater_oif_is_appended oifs oif next word words is below up =
    let all = all_below-greater oifs next oif.vif below up in (
      ap (λ r. r >>= λ more. oifs_after_words more words)
          (oifs_with_word-last oifs word oif.vif oif.threshold is all),
      list_all-append (λ other. nat_lt other.vif (oif.vif + 1)) oifs (oif ∷ [])
          ∙ rw (
            all_below-greater oifs oif.vif (oif.vif + 1) all (omega arith),
            lt-ltb oif.vif (oif.vif + 1) (omega arith),
          ) refl,
    )

-- ---- a row

-- decimal digits aren't `-1`
bytes_eq-decimal_is_not_unresolved : (word : List ℕ) → is_decimal_word word ≡ true
    → bytes_eq word (codes "-1") ≡ false
bytes_eq-decimal_is_not_unresolved [] e = absurd cc
bytes_eq-decimal_is_not_unresolved (c ∷ word) e =
    let p = and_parts (nat_le 1 (length (c ∷ word))) _ e in
    let digit = and_parts (is_ascii_digit c) _ p.1 in
    let other : (c == 45) ≡ false =
    ne_eqb c 45 (λ is. let wrong = subst (λ b. is_ascii_digit b ≡ true) is digit.0 in cc) in
    rw other refl

-- so they are an incoming vif
pub incoming_in-decimal : (word : List ℕ) (i : ℕ) → is_decimal_word word ≡ true → number_in 0 31 word ≡ Some i
    → incoming_in word ≡ Ok (Some i)
incoming_in-decimal word i digits e =
    rw (bytes_eq-decimal_is_not_unresolved word digits) (ap incoming_number e)

-- the row of six words that are read, and of the outgoing vifs after them
pub row_in_words-front : (order : Order) (words after : List (List ℕ)) (group origin iif a b c : List ℕ)
    (g o i : ℕ) (oifs : List Oif) → words ≡ group ∷ origin ∷ iif ∷ a ∷ b ∷ c ∷ after
    → address_in order group ≡ Some g → address_in order origin ≡ Some o → is_decimal_word iif ≡ true
    → number_in 0 31 iif ≡ Some i → is_counter a ≡ true → is_counter b ≡ true → is_counter c ≡ true
    → oifs_in after ≡ Ok oifs → row_in_words order words
    ≡ Ok (row_with_oifs (record { group = g; origin = o; iif = Some i }) oifs)
unfolding row_in_words
row_in_words-front order words after group origin iif a b c g o i oifs is of_group of_origin digits of_iif x y
    z read =
    rw (is, of_group, of_origin, incoming_in-decimal iif i digits of_iif, x, y, z, read) refl
