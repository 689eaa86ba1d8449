-- Reading an address: the functions agree with the relations.
use Rattle.std.proofs.Common.{◌≡◌, ℕ, ◌^◌, ◌<◌, ◌==◌, Bool, true, ltb, List, [], ◌∷◌, ◌++◌, length}
use Rattle.std.proofs.Common.{get_or, append_assoc, arith, Some, Result, Ok, Err, refl, sym, ap}
use Rattle.std.proofs.Common.{◌∙◌}
use Rattle.std.specs.Prelude.{reverse}
use Rattle.std.specs.Fmt.{decimal}
use Rattle.std.specs.Int.{w32, from_be_bytes}
use Rattle.std.specs.List.{list_all}
use Rattle.std.specs.Net.Text.{ipv4_text, dotted_text}
use Rattle.std.proofs.lemmas.Bool.Decides.{nat_tests}
use Rattle.std.proofs.lemmas.Fmt.{decimal_is_IsNumeral}
use Rattle.std.proofs.lemmas.List.{reverse-reverse, length-reverse, get_or-reverse, get_or_past}
use Rattle.std.proofs.lemmas.Nat.{from_be_bytes-to_be_bytes_4}
use Rattle.std.proofs.lemmas.Option.{same_Some}
use Rattle.std.proofs.lemmas.Slice.Eq.{bytes_eq-Decides}
use Rattle.mc_text.specs.declared.text.addr.Order.{Order}
use Rattle.mc_text.specs.declared.text.addr.Order.TheVariants.{Little, Big}
use Rattle.mc_text.specs.Hex.{decode_of}
use Rattle.mc_text.specs.Addr.{IsAddr, octets_of, dotted}
use Rattle.mc_text.specs.AddressReading.{numbers_between_dots, address_of_text, octets_in_order}
use Rattle.mc_text.specs.AddressReading.{address_of_octets, address_of_word}
use Rattle.mc_text.specs.AddressWord.{printed_octets, IsAddressWord}
use Rattle.mc_text.proofs.AddrLemmas.{octets_of-below_256, octets_of-from_be_bytes}
use Rattle.mc_text.proofs.AddrLemmas.{from_be_bytes-below_2_32, decode_of-below_256}
use Rattle.mc_text.proofs.AddrLemmas.{length-printed_octets}
use Rattle.mc_text.proofs.ByteLemmas.{HasNoByte-decimal}
use Rattle.mc_text.proofs.Searches.{slice_split-append_passing, slice_split-none_passes}

-- ---- dotted text

-- whether a byte is a dot
abbrev is_dot : ℕ → Bool
is_dot b = b == 46

-- the number before a dot is the first, and those after the dot follow
numbers_between_dots-decimal : (n : ℕ) (rest : List ℕ) → n < 256
    → numbers_between_dots (decimal n ++ 46 ∷ rest) ≡ n ∷ numbers_between_dots rest
numbers_between_dots-decimal n rest small =
    let wide : n < 2 ^ 64 = omega (arith, small) in
    let number = slice_split-append_passing is_dot (decimal n) 46 rest (HasNoByte-decimal 46 refl n wide)
    refl in
    rw (number, (decimal_is_IsNumeral n wide).1) refl

-- the numbers of a dotted text are those that it writes
numbers_between_dots-dotted_text : (a b c d : ℕ) → a < 256 → b < 256 → c < 256 → d < 256
    → numbers_between_dots (dotted_text a b c d) ≡ a ∷ b ∷ c ∷ d ∷ []
numbers_between_dots-dotted_text a b c d a-fits b-fits c-fits d-fits =
    let wide : d < 2 ^ 64 = omega (arith, d-fits) in
    let last = slice_split-none_passes is_dot (decimal d) (HasNoByte-decimal 46 refl d wide) in
    simp append_assoc (rw (
      numbers_between_dots-decimal a _ a-fits,
      numbers_between_dots-decimal b _ b-fits,
      numbers_between_dots-decimal c _ c-fits,
      last,
      (decimal_is_IsNumeral d wide).1,
    ) refl)

-- octets that pass the test are below 256
list_all-below_256 : (octets : List ℕ) → list_all (λ n. ltb n 256) octets ≡ true
    → (k : ℕ) → get_or octets k 0 < 256
list_all-below_256 [] all k = omega arith
list_all-below_256 (x ∷ xs) all k = grind (arith, nat_tests, list_all-below_256 xs)

-- the text is the dotted text of the address that is read
pub address_of_text-sound : (text : List ℕ) (a : ℕ) → address_of_text text ≡ Some a
    → IsAddr a × (text ≡ dotted a)
unfolding address_of_text
address_of_text-sound text a e =
    let octets = numbers_between_dots text in
    let same = (bytes_eq-Decides (ipv4_text octets) text).0 in
    grind (
      arith,
      nat_tests,
      list_all-below_256 octets,
      from_be_bytes-below_2_32
          octets,
      octets_of-from_be_bytes octets,
      same,
    )

-- the dotted text of an address is read as that address
pub address_of_text-complete : (text : List ℕ) (a : ℕ) → IsAddr a → text ≡ dotted a
    → address_of_text text ≡ Some a
unfolding address_of_text
address_of_text-complete text a fits e =
    let numbers : numbers_between_dots (dotted a) ≡ octets_of a =
    numbers_between_dots-dotted_text _ _ _ _ (octets_of-below_256 a 0) (octets_of-below_256 a 1)
    (octets_of-below_256 a 2) (octets_of-below_256 a 3) in
    let all : list_all (λ n. ltb n 256) (octets_of a) ≡ true = grind (arith, nat_tests) in
    let same = (bytes_eq-Decides (dotted a) (dotted a)).1 refl in
    rw (e, numbers, all, same) (ap Some (from_be_bytes-to_be_bytes_4 a fits))

-- two addresses with one text are one
pub dotted-injective : (a b : ℕ) → IsAddr a → IsAddr b → dotted a ≡ dotted b → a ≡ b
dotted-injective a b fits-a fits-b e = same_Some a b (sym (address_of_text-complete (dotted a) a fits-a refl)
    ∙ address_of_text-complete (dotted a) b fits-b e)

-- ---- address words

-- the printed octets, put in the address's order, are its octets
octets_in_order-printed_octets : (order : Order) (a : ℕ)
    → octets_in_order order (printed_octets order a) ≡ octets_of a
octets_in_order-printed_octets Big a = refl
octets_in_order-printed_octets Little a = reverse-reverse (octets_of a)

-- four bytes, reversed, are bytes
reverse-below_256 : (octets : List ℕ) → length octets ≡ 4 → ((k : ℕ) → get_or octets k 0 < 256)
    → (k : ℕ) → get_or (reverse octets) k 0 < 256
reverse-below_256 octets four fit k = grind (arith, get_or-reverse, get_or_past, length-reverse)

-- the printed octets of the address that is read from four octets are these
printed_octets-from_octets_in_order : (order : Order) (octets : List ℕ) (a : ℕ) → length octets ≡ 4
    → ((k : ℕ) → get_or octets k 0 < 256) → from_be_bytes w32 (octets_in_order order octets) ≡ a
    → IsAddr a × (octets ≡ printed_octets order a)
printed_octets-from_octets_in_order order octets a four fit e =
    let turned = reverse-below_256 octets four fit in
    let small = from_be_bytes-below_2_32 (reverse octets) turned in
    let back = octets_of-from_be_bytes (reverse octets) (length-reverse octets ∙ four) turned in
    let own = octets_of-from_be_bytes octets four fit in
    grind (arith, from_be_bytes-below_2_32 octets fit, own, small, back, reverse-reverse octets)

-- what is read from octets is an address with these printed octets
address_of_octets-sound : {E : Type 0} (order : Order) (decoded : Result (List ℕ) E) (a : ℕ)
    → ((octets : List ℕ) → decoded ≡ Ok octets → (k : ℕ) → get_or octets k 0 < 256)
    → address_of_octets order decoded ≡ Some a
    → IsAddr a × (decoded ≡ Ok (printed_octets order a))
address_of_octets-sound order (Ok octets) a fit e =
    grind (arith, nat_tests, printed_octets-from_octets_in_order order octets a, fit octets refl)
address_of_octets-sound order (Err f) a fit e = absurd cc

-- the word shows the address that is read
pub address_of_word-sound : (order : Order) (word : List ℕ) (a : ℕ)
    → address_of_word order word ≡ Some a → IsAddr a × IsAddressWord order word a
unfolding address_of_word
address_of_word-sound order word a e =
    address_of_octets-sound order (decode_of word) a (decode_of-below_256 word) e

-- a word that shows an address is read as that address
pub address_of_word-complete : (order : Order) (word : List ℕ) (a : ℕ) → IsAddr a
    → IsAddressWord order word a → address_of_word order word ≡ Some a
unfolding address_of_word
address_of_word-complete order word a fits shown =
    rw (shown, length-printed_octets order a, octets_in_order-printed_octets order a)
    (ap Some (from_be_bytes-to_be_bytes_4 a fits))
