-- The first byte that passes a test, as `memchr` finds it.
use Rattle.std.proofs.Common.{◌≡◌, ℕ, Bool, List, Option, None, Some, sym, arith}
use Rattle.std.specs.Prelude.{position}
use Rattle.std.proofs.lemmas.Bool.{false_from_ne_true}
use Rattle.memchr.specs.Find.{IsFirstByte}
use Rattle.mc_text.proofs.Searches.{position-first, position-nowhere}

-- the place of the first byte that passes, or none if no byte does, is what the search finds
pub position-first_byte : (p : ℕ → Bool) (text : List ℕ) (found : Option ℕ)
    → IsFirstByte p text found → found ≡ position p text
position-first_byte p text None nowhere =
    sym (position-nowhere p text 0 (λ k low. false_from_ne_true _ (nowhere k (omega arith) low)))
position-first_byte p text (Some place) first =
    sym (position-first p text 0 place first.0.high
    (λ k low. false_from_ne_true _ (first.0.before k (omega arith) low)) first.1)
