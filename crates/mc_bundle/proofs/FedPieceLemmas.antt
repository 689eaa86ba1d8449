-- The result of a reader that is fed in pieces.
use Rattle.std.specs.Prelude.{◌≡◌, ℕ, List, ◌++◌, Result, Ok, Err, OnOk, is_ok, true}
use Rattle.std.proofs.Common.{ap, ◌∙◌, sym, append_assoc}

-- the bytes of the text before a piece are the piece and the bytes after it
pub result_after-append_piece : {E : Type 0} (before old new : List ℕ → E) (done piece more : List ℕ)
    → before (done ++ (piece ++ more)) ≡ old (piece ++ more)
    → new more ≡ old (piece ++ more) → before ((done ++ piece) ++ more) ≡ new more
result_after-append_piece before old new done piece more first goes =
    ap before (append_assoc done piece more) ∙ first ∙ sym goes

-- a clause about a taken piece holds if it was taken
pub fact-from_OnOk : {E P : Type 0} (r : Result (Unit {0}) E) → is_ok r ≡ true → OnOk r P → P
fact-from_OnOk (Ok u) ok holds = holds
fact-from_OnOk (Err fault) ok holds = absurd cc
