-- The end of a line whose digits are decoded ahead.
use Rattle.std.proofs.Common.{◌≡◌, ℕ, ◌+◌, ◌*◌, ◌<◌, ◌≤◌, true, false, List, [], ◌++◌}
use Rattle.std.proofs.Common.{length, get_or, eqb, take, drop, Option, Some, None, inl, inr}
use Rattle.std.proofs.Common.{refl, sym, ap, subst, ◌∙◌, arith}
use Rattle.std.specs.Prelude.{position, ◌⊎◌, IfSome}
use Rattle.std.specs.List.{list_all}
use Rattle.std.proofs.lemmas.Bool.{cases_lt}
use Rattle.std.proofs.lemmas.Bool.Decides.{nat_tests}
use Rattle.std.proofs.lemmas.List.{get_or-take, length-take, take-take}
use Rattle.std.proofs.lemmas.List.Quantifiers.{position-Some}
use Rattle.std.proofs.lemmas.List.Sums.{AllPass-from_list_all}
use Rattle.hex.specs.Hex.{is_hex_digit}
use Rattle.mc_text.specs.DigitPairs.{bytes_of_pairs}
use Rattle.mc_text.proofs.Searches.{position-behind_front, position-nowhere_behind_front}
use Rattle.mc_igmp.specs.ListSoFar.{IsDecodedAhead}

-- a hexadecimal digit is no line feed
eqb-hex_digit : (b : ℕ) → is_hex_digit b ≡ true → eqb b 10 ≡ false
eqb-hex_digit b digit = grind (arith, nat_tests)

-- the first digits of a text are no line feeds
get_or-no_line_feed : (k : ℕ) (text : List ℕ) → list_all is_hex_digit (take k text) ≡ true
    → (j : ℕ) → j < k → j < length text → eqb (get_or text j 0) 10 ≡ false
get_or-no_line_feed k text digits j less within =
    let passes = AllPass-from_list_all is_hex_digit (take k text) digits in
    eqb-hex_digit (get_or text j 0) (ap is_hex_digit (sym (get_or-take k text j 0 less))
    ∙ passes j 0 (omega (arith, length-take k text)))

-- the first line feed after the digits is the first of the text
pub position-line_feed_after_digits : (k : ℕ) (text : List ℕ) (place : ℕ) → k ≤ length text
    → list_all is_hex_digit (take k text) ≡ true
    → position (λ b. eqb b 10) (drop k text) ≡ Some place
    → position (λ b. eqb b 10) text ≡ Some (k + place)
position-line_feed_after_digits k text place within digits found =
    position-behind_front (λ b. eqb b 10) text 0 k within
    (λ j early. get_or-no_line_feed k text digits j early (omega (arith, early))) place found

-- if there is no line feed after the digits, there is none at all
pub position-no_line_feed_after_digits : (k : ℕ) (text : List ℕ) → k ≤ length text
    → list_all is_hex_digit (take k text) ≡ true
    → position (λ b. eqb b 10) (drop k text) ≡ None
    → position (λ b. eqb b 10) text ≡ None
position-no_line_feed_after_digits k text within digits none =
    position-nowhere_behind_front (λ b. eqb b 10) text 0 k within
    (λ j early. get_or-no_line_feed k text digits j early (omega (arith, early))) none

-- digits decoded ahead in a text are decoded in the line that it begins with
decoded_ahead-of_line : (begun text message : List ℕ) (decoded end : ℕ) → IsDecodedAhead text message decoded
    → (begun ≡ []) ⊎ (decoded ≡ 0) → position (λ b. eqb b 10) text ≡ Some end
    → IsDecodedAhead (begun ++ take end text) message decoded
decoded_ahead-of_line begun text message decoded end ahead (inr none) found =
    subst (λ (n : ℕ). IsDecodedAhead (begun ++ take end text) message n) (sym none)
    record { ahead = (refl, refl); within = omega arith; fits = omega arith }
decoded_ahead-of_line begun text message decoded end ahead (inl whole) found =
    let at = position-Some (λ b. eqb b 10) text end 0 found in
    let far : 2 * decoded ≤ end = elim (cases_lt end (2 * decoded)) [
      | inr far ↦ far
      | inl near ↦ absurd (cc (get_or-no_line_feed (2 * decoded) text ahead.ahead.0 end near at.0, at.1))
    ] in
    let same : take (2 * decoded) (take end text) ≡ take (2 * decoded) text =
    take-take (2 * decoded) end text far in
    subst (λ (l : List ℕ). IsDecodedAhead (l ++ take end text) message decoded) (sym whole) record {
      ahead = (
        subst (λ (s : List ℕ). list_all is_hex_digit s ≡ true) (sym same) ahead.ahead.0,
        ahead.ahead.1 ∙ ap bytes_of_pairs (sym same),
      );
      within = omega (arith, length-take end text, at.0);
      fits = ahead.fits;
    }

-- where the line's end was found, the digits before it are decoded ahead
pub decoded_ahead-up_to_line_end : (place : Option ℕ) (begun text message : List ℕ) (decoded : ℕ)
    → IsDecodedAhead text message decoded → (begun ≡ []) ⊎ (decoded ≡ 0)
    → place ≡ position (λ b. eqb b 10) text
    → IfSome place (λ end. IsDecodedAhead (begun ++ take end text) message decoded)
decoded_ahead-up_to_line_end None begun text message decoded ahead split is = tt
decoded_ahead-up_to_line_end (Some end) begun text message decoded ahead split is =
    decoded_ahead-of_line begun text message decoded end ahead split (sym is)
