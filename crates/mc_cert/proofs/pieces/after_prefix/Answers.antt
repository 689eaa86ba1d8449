use Rattle.std.proofs.Common.{◌≡◌, ◌++◌, ℕ, List, Option, Some, None, Bor}
use Rattle.std.specs.Prelude.{MatchOption, IfSome}
use Rattle.std.proofs.lemmas.Bool.Decides.{Decides-eqb}
use Rattle.std.proofs.lemmas.Slice.Eq.{strip_prefix_is}
use Rattle.mc_cert.proofs.pieces.after_prefix.Goals as goal

-- Where a prefix is stripped, the text is this prefix and what is left.
IfSome-strip_prefix : (P : Type 0) (s p : List ℕ) (r : Option (Bor (List ℕ)))
    → MatchOption r P (λ x. s ≡ p ++ x.now) → IfSome r (λ rest. s ≡ p ++ rest.now)
IfSome-strip_prefix P s p None h = tt
IfSome-strip_prefix P s p (Some x) h = h

-- Stripping compares bytes, and equal bytes are the same text.
pub returns : goal.returns
returns c = IfSome-strip_prefix _ c.args.text.now c.args.front.now c.strip_prefix.result
    (strip_prefix_is Decides-eqb c.args.text.now c.args.front.now c.strip_prefix.result
    c.strip_prefix.ensures.cases)
