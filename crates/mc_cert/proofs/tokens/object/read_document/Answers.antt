use Rattle.std.proofs.Common.{◌≡◌, ◌+◌, List, [], ap, ◌∙◌, subst, arith}
use Rattle.json.specs.Lex.{tokens}
use Rattle.json.specs.Token.{Token}
use Rattle.serde_json.specs.Data.{object}
use Rattle.mc_cert.specs.Tokens.{Reads}
use Rattle.mc_cert.proofs.TokenLemmas.{read-from_Reads}
use Rattle.mc_cert.proofs.tokens.object.read_document.Goals as goal

-- No token is left behind the object, so that it is the value of the whole text.
pub returns : goal.returns
returns g c =
    let (ms, reads, held) = c.in_ok-fields.ensures in
    let levels = g.F.Fields.levels + 1 in
    let rest = c.read_object.new.reader in
    let none : rest ≡ [] = grind arith in (
      ms,
      read-from_Reads levels c.args.text.now (object ms) rest (omega (arith, c.requires.shallow))
          (subst (λ (ts : List Token). Reads levels ts (object ms) rest)
          (c.new-reader.ensures ∙ ap tokens c.as_bytes.ensures.value) reads) none,
      held,
    )
