use Rattle.std.proofs.Common.{sym, ◌∙◌}
use Rattle.mc_cert.proofs.TokenReaderLemmas.{token-begin_object}
use Rattle.mc_cert.proofs.token_reader.TokenReader.open_object.Goals as goal

-- A brace where a value may begin is the token of an object's start.
pub returns : goal.returns
returns c =
    let begins = c.in_ok-rest.ensures in
    sym c.self.view_is ∙ token-begin_object c.self.inside.place c.self.inside.rest.now c.in_ok-rest.rest.now
    begins.place
    begins.rest
