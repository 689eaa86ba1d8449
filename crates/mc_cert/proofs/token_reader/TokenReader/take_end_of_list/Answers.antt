use Rattle.std.proofs.Common.{◌≡◌, get_or, true, refl, sym, ap, ◌∙◌, ◌∷◌, arith}
use Rattle.json.specs.Json.{after_end_array}
use Rattle.json.specs.Token.{end_array}
use Rattle.mc_cert.specs.TokenReader.{may_close}
use Rattle.mc_cert.proofs.TokenReaderLemmas.{begins-skipped, no_end-before_object, no_end-before_array}
use Rattle.mc_cert.proofs.TokenReaderLemmas.{token-end_array}
use Rattle.mc_cert.proofs.token_reader.TokenReader.take_end_of_list.Goals as goal

-- Before a brace the next token is an object's start, or there is none: no list ends.
pub returns-in-123 : goal.returns-in-123
returns-in-123 c =
    let skipped = c.skip_space.result.now in
    let first : get_or skipped 0 0 ≡ 123 = grind arith in
    let begins = begins-skipped 123 c.self.inside.rest.now skipped c.skip_space.ensures c.in-123.len_at_least
    first
    in (
      ap after_end_array (sym c.self.view_is) ∙ no_end-before_object c.self.inside.place
          c.self.inside.rest.now _ begins,
      refl,
    )

-- Before a bracket the next token is a list's start, or there is none: no list ends.
pub returns-in-91 : goal.returns-in-91
returns-in-91 c =
    let skipped = c.skip_space.result.now in
    let first : get_or skipped 0 0 ≡ 91 = grind arith in
    let begins = begins-skipped 91 c.self.inside.rest.now skipped c.skip_space.ensures c.in-91.len_at_least
    first
    in (
      ap after_end_array (sym c.self.view_is) ∙ no_end-before_array c.self.inside.place
          c.self.inside.rest.now _ begins,
      refl,
    )

-- A closing bracket, where a list may end, is the token of its end.
pub returns-in-93 : goal.returns-in-93
returns-in-93 c =
    let skipped = c.skip_space.result.now in
    let first : get_or skipped 0 0 ≡ 93 = grind arith in
    let may : may_close c.self.inside.place ≡ true = grind arith in
    let begins = begins-skipped 93 c.self.inside.rest.now skipped c.skip_space.ensures c.in-93.len_at_least
    first
    in
    ap after_end_array (sym c.self.view_is ∙ token-end_array c.self.inside.place c.self.inside.rest.now _ may
    begins
    ∙ ap (λ ts. end_array ∷ ts) (sym c.after_value-place.ensures))
