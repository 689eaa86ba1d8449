use Rattle.mc_cert.proofs.TokenReaderLemmas.{passed_comma}
use Rattle.mc_cert.proofs.token_reader.after_value.Goals as goal

-- A comma behind a value has no token of its own: what follows is read as after a comma.
pub returns-in-Some : goal.returns-in-Some
returns-in-Some c = passed_comma c.args.text.now c.in-Some.rest.now c.in-Some.ensures
