use Rattle.std.proofs.Common.{sym, ◌∙◌}
use Rattle.mc_cert.proofs.TokenReaderLemmas.{token-begin_array}
use Rattle.mc_cert.proofs.token_reader.TokenReader.open_list.Goals as goal

-- A bracket where a value may begin is the token of a list's start.
pub returns : goal.returns
returns c =
    let begins = c.in_ok-rest.ensures in
    sym c.self.view_is ∙ token-begin_array c.self.inside.place c.self.inside.rest.now c.in_ok-rest.rest.now
    begins.place
    begins.rest
