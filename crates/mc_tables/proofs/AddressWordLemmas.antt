-- The two addresses that a line begins with.
use Rattle.std.proofs.Common.{◌≡◌, ℕ, ◌≤◌, true, List, [], ◌∷◌, ◌++◌, length, take}
use Rattle.std.proofs.Common.{drop, get_or, Some, Ok, refl, sym, ap, ◌∙◌, subst, arith}
use Rattle.std.specs.Int.{w32, from_be_bytes}
use Rattle.std.specs.List.{list_all, range_with_len}
use Rattle.std.specs.Simd.Lanes.{pick_l}
use Rattle.std.proofs.lemmas.List.{get_or-drop, drop-drop, length-drop, length-take-le}
use Rattle.mc_text.specs.Hex.{is_hex_digit, decode_of}
use Rattle.mc_text.specs.Lines.{words_of}
use Rattle.mc_text.specs.declared.text.addr.Order.{Order}
use Rattle.mc_text.specs.AddressReading.{octets_in_order}
use Rattle.mc_text.specs.DigitPairs.{bytes_of_pairs}
use Rattle.mc_text.proofs.DigitLaneLemmas.{decode_of-digits, list_all-take, list_all-drop}
use Rattle.mc_tables.specs.TableWords.{address_in}
use Rattle.mc_tables.specs.RowWords.{HasAddresses}
use Rattle.mc_tables.proofs.PlainRowLemmas.{words_of-address}

-- a word that decodes to four bytes denotes the address of them
address_in-decoded : (order : Order) (word bytes : List ℕ) → length bytes ≡ 4 → decode_of word ≡ Ok bytes
    → address_in order word ≡ Some (from_be_bytes w32 (octets_in_order order bytes))
address_in-decoded order word bytes four decoded = rw (decoded, four) refl

-- the halves of sixteen digits with more behind them
address_in-digit_halves : (order : Order) (a b more bytes : List ℕ) → length a ≡ 8 → length b ≡ 8
    → list_all is_hex_digit ((a ++ b) ++ more) ≡ true → bytes ≡ bytes_of_pairs ((a ++ b) ++ more)
    → (address_in order a ≡ Some (from_be_bytes w32 (octets_in_order order
    (pick_l 0 (bytes ++ bytes) (range_with_len 0 4)))))
    × (address_in order b ≡ Some (from_be_bytes w32 (octets_in_order order
    (pick_l 0 (bytes ++ bytes) (range_with_len 4 4)))))
address_in-digit_halves order
    (a0 ∷ a1 ∷ a2 ∷ a3 ∷ a4 ∷ a5 ∷ a6 ∷ a7 ∷ []) (b0 ∷ b1 ∷ b2 ∷ b3 ∷ b4 ∷ b5 ∷ b6 ∷ b7 ∷ []) more bytes
    eight_a eight_b digits is =
    let a = a0 ∷ a1 ∷ a2 ∷ a3 ∷ a4 ∷ a5 ∷ a6 ∷ a7 ∷ [] in
    let b = b0 ∷ b1 ∷ b2 ∷ b3 ∷ b4 ∷ b5 ∷ b6 ∷ b7 ∷ [] in
    let of_a = decode_of-digits 4 a refl (list_all-take is_hex_digit 8 ((a ++ b) ++ more) digits) in
    let behind = list_all-drop is_hex_digit 8 ((a ++ b) ++ more) digits in
    let of_b = decode_of-digits 4 b refl (list_all-take is_hex_digit 8 (b ++ more) behind) in (
      address_in-decoded order a (bytes_of_pairs a) refl of_a
          ∙ ap (λ (bs : List ℕ). Some (from_be_bytes w32 (octets_in_order order
          (pick_l 0 (bs ++ bs) (range_with_len 0 4))))) (sym is),
      address_in-decoded order b (bytes_of_pairs b) refl of_b
          ∙ ap (λ (bs : List ℕ). Some (from_be_bytes w32 (octets_in_order order
          (pick_l 0 (bs ++ bs) (range_with_len 4 4))))) (sym is),
    )
address_in-digit_halves order _ _ more bytes eight_a eight_b digits is = grind arith

-- the words of both addresses, whose digits are in the lanes
pub address_in-both_words : (order : Order) (line text bytes : List ℕ) → 25 ≤ length line
    → text ≡ (take 8 line ++ take 8 (drop 9 line)) ++ (take 8 line ++ take 8 (drop 9 line))
    → list_all is_hex_digit text ≡ true → bytes ≡ bytes_of_pairs text
    → (address_in order (take 8 line) ≡ Some (from_be_bytes w32 (octets_in_order order
    (pick_l 0 (bytes ++ bytes) (range_with_len 0 4)))))
    × (address_in order (take 8 (drop 9 line)) ≡ Some (from_be_bytes w32 (octets_in_order order
    (pick_l 0 (bytes ++ bytes) (range_with_len 4 4)))))
address_in-both_words order line text bytes long parts digits is =
    let a = take 8 line in
    let b = take 8 (drop 9 line) in
    let size = length-drop 9 line in
    address_in-digit_halves order a b (a ++ b) bytes (length-take-le 8 line (omega (arith, long)))
    (length-take-le 8 (drop 9 line) (omega (arith, long, size)))
    (subst (λ t. list_all is_hex_digit t ≡ true) parts digits) (is ∙ ap bytes_of_pairs parts)

-- two words at their places, with a space after each, are a line's first words
pub has_addresses-from_words : (order : Order) (line : List ℕ) (group origin : ℕ) → 18 ≤ length line
    → get_or line 8 0 ≡ 32 → get_or line 17 0 ≡ 32 → address_in order (take 8 line) ≡ Some group
    → address_in order (take 8 (drop 9 line)) ≡ Some origin → HasAddresses order line group origin
has_addresses-from_words order line group origin long first second of_group of_origin =
    let rest = drop 9 line in
    let size = length-drop 9 line in
    let space : get_or rest 8 0 ≡ 32 = get_or-drop 9 line 8 0 ∙ second in
    let words = words_of-address order rest origin (omega (arith, size, long)) space of_origin in
    record {
      long = long;
      words = words_of-address order line group (omega (arith, long)) first of_group
          ∙ ap (λ (ws : List (List ℕ)). take 8 line ∷ ws)
          (words ∙ ap (λ (r : List ℕ). take 8 rest ∷ words_of r) (drop-drop 9 9 line));
      group_read = of_group;
      origin_read = of_origin;
    }
