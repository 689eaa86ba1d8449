use Rattle.std.proofs.Common.{◌≡◌, length, true, sym, ◌∙◌, arith}
use Rattle.mc_cert.specs.TokenReader.{may_close}
use Rattle.mc_cert.proofs.TokenReaderLemmas.{nothing_left}
use Rattle.mc_cert.proofs.token_reader.TokenReader.is_at_end.Goals as goal

-- Behind a value, white space has no tokens.
pub returns-then-may_close : goal.returns-then-may_close
returns-then-may_close c = λ empty.
    let may : may_close c.self.inside.place ≡ true = grind arith in
    let none : length c.skip_space.result.now ≡ 0 = grind arith in
    sym c.self.view_is ∙ nothing_left c.self.inside.place c.self.inside.rest.now c.skip_space.result.now may
    c.skip_space.ensures none
