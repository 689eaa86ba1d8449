use Rattle.std.proofs.Common.{◌≡◌, false, sym, ap, ◌∙◌, ◌∷◌, ◌++◌, drop, arith}
use Rattle.std.proofs.lemmas.List.{take_rest}
use Rattle.json.specs.Lex.{after_value, between, lex, begins_colon, punctuate}
use Rattle.json.specs.Token.{string}
use Rattle.mc_cert.proofs.PlainTextLemmas.{IsString-name}
use Rattle.mc_cert.proofs.TokenReaderLemmas.{token-string}
use Rattle.mc_cert.proofs.token_reader.TokenReader.pass_name.Goals as goal

-- The name and the marks around it, where a value may begin, and behind which no colon comes, are the token
-- of a text.
pub returns : goal.returns
returns c =
    let name = c.args.name.now in
    let inside = c.in-Ok.inside.now in
    let quoted = c.in-Some.quoted.now in
    let begins = c.in-Ok.ensures in
    let is = c.in-Some.ensures.text ∙ ap (λ rest. name ++ rest) c.in-Some.ensures.quote in
    let read = IsString-name name inside (drop 1 quoted) c.requires.named is in
    let no_colon : begins_colon (lex between (drop 1 quoted)) ≡ false =
    ap (λ rest. begins_colon (lex between rest)) (sym (take_rest quoted 1)) ∙ grind arith in
    sym c.self.view_is ∙ token-string c.self.inside.place c.self.inside.rest.now inside
    name (drop 1 quoted) begins.place begins.rest read.content read.lexemes no_colon
    ∙ ap (λ ts. string name ∷ ts) (ap (λ rest. punctuate after_value (lex between rest))
    (sym (take_rest quoted 1)) ∙ sym c.after_value-place.ensures)
