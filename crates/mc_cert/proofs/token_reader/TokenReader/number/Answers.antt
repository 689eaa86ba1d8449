use Rattle.std.proofs.Common.{◌≡◌, true, decimal, sym, ap, ◌∙◌, ◌∷◌, arith}
use Rattle.json.specs.Token.{number}
use Rattle.json.specs.Word.{ends_word}
use Rattle.mc_cert.specs.TokenReader.{may_begin}
use Rattle.mc_cert.proofs.TokenReaderLemmas.{token-number}
use Rattle.mc_cert.proofs.token_reader.TokenReader.number.Goals as goal

-- Digits before the end of a word, where a value may begin, are the token of a number.
pub returns-clause-number : goal.returns-clause-number
returns-clause-number c =
    let may : may_begin c.self.inside.place ≡ true = grind arith in
    let ended : ends_word c.in-Some.rest.now ≡ true = grind arith in
    sym c.self.view_is ∙ token-number c.self.inside.place c.self.inside.rest.now c.skip_space.result.now
    c.in-Some.number c.in-Some.rest.now may c.skip_space.ensures c.in-Some.ensures.text
    c.in-Some.ensures.small
    ended
    ∙ ap (λ ts. number (decimal c.in-Some.number) ∷ ts) (sym c.after_value-place.ensures)
