-- Plain decimal numbers, and the text of a range.
use Rattle.std.proofs.Common.{◌≡◌, ℕ, ◌^◌, ◌<◌, ◌≤◌, true, false, List, [], ◌∷◌, ◌++◌, length}
use Rattle.std.proofs.Common.{eqb, ap₂, Option, None, Some, refl, sym, ap, subst, ◌∙◌, arith, take, drop, ◌+◌}
use Rattle.std.specs.Prelude.{IfSome, position, ◌==◌}
use Rattle.std.specs.Char.{is_ascii_digit}
use Rattle.std.specs.Fmt.{decimal}
use Rattle.std.specs.Net.Text.{dotted_text}
use Rattle.std.proofs.lemmas.Fmt.{decimal_is_IsNumeral}
use Rattle.std.proofs.lemmas.List.{take_at}
use Rattle.std.proofs.lemmas.List.Quantifiers.{position-Some}
use Rattle.std.proofs.lemmas.Option.{same_Some}
use Rattle.std.proofs.Math.Seq.{drop-append-add}
use Rattle.mc_text.specs.Addr.{dotted}
use Rattle.mc_text.specs.GroupRange.{range_text}
use Rattle.mc_text.specs.Number.{IsDecimal, is_plain_decimal}
use Rattle.mc_text.proofs.AddrLemmas.{octets_of-below_256}
use Rattle.mc_text.proofs.ByteLemmas.{HasNoByte, HasNoByte-append, HasNoByte-decimal}
use Rattle.mc_text.proofs.ByteLemmas.{decimal-of_digits_value, is_plain_decimal-decimal}
use Rattle.mc_text.proofs.ByteLemmas.{position-append_byte, split_at_byte}

-- ---- plain numbers

-- a plain word is how its number is written
pub decimal-from_plain : (word : List ℕ) (n : ℕ) → is_plain_decimal word ≡ true → IsDecimal word n
    → n < 2 ^ 64 → word ≡ decimal n
decimal-from_plain word n plain writes small =
    sym (decimal-of_digits_value word plain (subst (λ (m : ℕ). m < 2 ^ 64) (sym writes.1) small))
    ∙ ap decimal writes.1

-- how a number is written is a word of it
pub is_decimal-of_decimal : (word : List ℕ) (n : ℕ) → n < 2 ^ 64 → word ≡ decimal n → IsDecimal word n
is_decimal-of_decimal word n small is =
    subst (λ (w : List ℕ). IsDecimal w n) (sym is) (decimal_is_IsNumeral n small)

-- how a number is written is plain
pub plain-from_decimal : (word : List ℕ) (n : ℕ) → n < 2 ^ 64 → word ≡ decimal n
    → is_plain_decimal word ≡ true
plain-from_decimal word n small is = ap is_plain_decimal is ∙ is_plain_decimal-decimal n small

-- ---- the text of a range

-- a byte that is no digit and no dot is in no address with dots
HasNoByte-dotted_text : (x : ℕ) → is_ascii_digit x ≡ false → (46 == x) ≡ false → (a b c d : ℕ)
    → a < 256 → b < 256 → c < 256 → d < 256 → HasNoByte x (dotted_text a b c d)
HasNoByte-dotted_text x no_digit no_dot a b c d a-fits b-fits c-fits d-fits =
    let number : (n : ℕ) → n < 256 → HasNoByte x (decimal n) =
    λ n small. HasNoByte-decimal x no_digit n (omega (arith, small)) in
    let with : (xs : List ℕ) (n : ℕ) → HasNoByte x xs → n < 256 → HasNoByte x ((xs ++ 46 ∷ []) ++ decimal n) =
    λ xs n front small. HasNoByte-append x (xs ++ 46 ∷ []) (decimal n)
    (HasNoByte-append x xs (46 ∷ []) front (no_dot, tt)) (number n small) in
    with ((((decimal a ++ 46 ∷ []) ++ decimal b) ++ 46 ∷ []) ++ decimal c) d
    (with ((decimal a ++ 46 ∷ []) ++ decimal b) c (with (decimal a) b (number a a-fits) b-fits) c-fits) d-fits

-- an address has no slash
HasNoByte-slash_dotted : (a : ℕ) → HasNoByte 47 (dotted a)
HasNoByte-slash_dotted a =
    HasNoByte-dotted_text 47 refl refl _ _ _ _ (octets_of-below_256 a 0) (octets_of-below_256 a 1)
    (octets_of-below_256 a 2) (octets_of-below_256 a 3)

-- the first slash of a range's text is behind its address
pub position-slash : (text : List ℕ) (range : ℕ × ℕ) → text ≡ range_text range
    → position (λ b. b == 47) text ≡ Some (length (dotted range.0))
position-slash text range is =
    ap (position (λ b. b == 47)) is
    ∙ position-append_byte 47 (dotted range.0) (decimal range.1) (HasNoByte-slash_dotted range.0)

-- what is before the slash
pub take-slash : (text : List ℕ) (range : ℕ × ℕ) (n : ℕ) → text ≡ range_text range
    → position (λ b. b == 47) text ≡ Some n → take n text ≡ dotted range.0
take-slash text range n is at =
    let address = dotted range.0 in
    ap (λ (m : ℕ). take m text) (same_Some n (length address) (sym at ∙ position-slash text range is))
    ∙ ap (take (length address)) is ∙ take_at address (47 ∷ decimal range.1) (length address) refl

-- what is after the slash
pub drop-slash : (text : List ℕ) (range : ℕ × ℕ) (n : ℕ) → text ≡ range_text range
    → position (λ b. b == 47) text ≡ Some n → drop (n + 1) text ≡ decimal range.1
drop-slash text range n is at =
    let address = dotted range.0 in
    ap (λ (m : ℕ). drop (m + 1) text) (same_Some n (length address) (sym at ∙ position-slash text range is))
    ∙ ap (drop (length address + 1)) is ∙ drop-append-add address (47 ∷ decimal range.1) 1

-- a text whose parts are an address and a number is that of a range
pub range_text-from_parts : (text : List ℕ) (n : ℕ) (range : ℕ × ℕ) → position (λ b. b == 47) text ≡ Some n
    → take n text ≡ dotted range.0 → drop (n + 1) text ≡ decimal range.1 → text ≡ range_text range
range_text-from_parts text n range at front back =
    let (within, here, first) = position-Some (λ b. eqb b 47) text n 0 at in
    split_at_byte 47 text n within here ∙ ap₂ (λ (xs ys : List ℕ). xs ++ 47 ∷ ys) front back

-- ---- what is read, if anything is

-- if a number is read of a plain word, the word is how it is written
pub if_plain_decimal : (o : Option ℕ) (word : List ℕ) (max : ℕ) → max < 2 ^ 64
    → is_plain_decimal word ≡ true → IfSome o (λ n. IsDecimal word n) → IfSome o (λ n. n ≤ max)
    → IfSome o (λ n. word ≡ decimal n)
if_plain_decimal None word max small plain writes bound = tt
if_plain_decimal (Some n) word max small plain writes bound =
    decimal-from_plain word n plain writes (omega (arith, small, bound))

-- if the range is read of its text, the text is how it is written
pub if_range_text : (o : Option (ℕ × ℕ)) (text : List ℕ) (range : ℕ × ℕ) → text ≡ range_text range
    → IfSome o (λ r. r ≡ range) → IfSome o (λ r. text ≡ range_text r)
if_range_text None text range is same = tt
if_range_text (Some r) text range is same = is ∙ ap range_text (sym same)
