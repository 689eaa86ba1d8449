use Rattle.std.proofs.Common.{◌≡◌, get_or, true, sym, ap, ◌∙◌, ◌∷◌, arith}
use Rattle.json.specs.Json.{read_key}
use Rattle.json.specs.Token.{end_object}
use Rattle.mc_cert.specs.Keys.{key_name}
use Rattle.mc_cert.specs.TokenReader.{may_begin, may_close}
use Rattle.mc_cert.proofs.TokenReaderLemmas.{begins-skipped, token-key, token-end_object}
use Rattle.mc_cert.proofs.token_reader.TokenReader.next_key.Goals as goal

-- A string and a colon, where a key may begin, are the token of a key.
pub returns-in-Some : goal.returns-in-Some
returns-in-Some c =
    let skipped = c.skip_space.result.now in
    let first : get_or skipped 0 0 ≡ 34 = grind arith in
    let may : may_begin c.self.inside.place ≡ true = grind arith in
    let begins = begins-skipped 34 c.self.inside.rest.now skipped c.skip_space.ensures c.in-34.len_at_least
    first
    in
    ap read_key (sym c.self.view_is ∙ token-key c.self.inside.place c.self.inside.rest.now _
    (key_name c.in_ok-key-in-34.key) c.in_ok-key-in-34.rest.now c.in-Some.rest.now may begins
    c.in_ok-key-in-34.ensures.content c.in_ok-key-in-34.ensures.rest c.in-Some.ensures)

-- A closing brace, where an object may end, is the token of its end.
pub returns-in-125 : goal.returns-in-125
returns-in-125 c =
    let skipped = c.skip_space.result.now in
    let first : get_or skipped 0 0 ≡ 125 = grind arith in
    let may : may_close c.self.inside.place ≡ true = grind arith in
    let begins = begins-skipped 125 c.self.inside.rest.now skipped c.skip_space.ensures c.in-125.len_at_least
    first
    in
    ap read_key (sym c.self.view_is ∙ token-end_object c.self.inside.place c.self.inside.rest.now _ may begins
    ∙ ap (λ ts. end_object ∷ ts) (sym c.after_value-place.ensures))
