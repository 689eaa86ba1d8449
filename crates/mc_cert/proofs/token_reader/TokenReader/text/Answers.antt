use Rattle.std.proofs.Common.{◌≡◌, false, sym, ap, ◌∙◌, ◌∷◌, arith}
use Rattle.json.specs.Lex.{between, lex, begins_colon}
use Rattle.json.specs.Token.{string}
use Rattle.mc_cert.specs.JsonString.{text_bytes}
use Rattle.mc_cert.proofs.TokenReaderLemmas.{token-string}
use Rattle.mc_cert.proofs.token_reader.TokenReader.text.Goals as goal

-- A string where a value may begin, and behind which no colon comes, is the token of a text and not of a
-- key.
pub returns : goal.returns
returns c =
    let begins = c.in_ok-inside.ensures in
    let no_colon : begins_colon (lex between c.in_ok-text.rest.now) ≡ false = grind arith in
    sym c.self.view_is ∙ token-string c.self.inside.place c.self.inside.rest.now c.in_ok-inside.inside.now
    (text_bytes c.in_ok-text.text) c.in_ok-text.rest.now begins.place begins.rest
    c.in_ok-text.ensures.content c.in_ok-text.ensures.rest no_colon
    ∙ ap (λ ts. string (text_bytes c.in_ok-text.text) ∷ ts) (sym c.after_value-place.ensures)
