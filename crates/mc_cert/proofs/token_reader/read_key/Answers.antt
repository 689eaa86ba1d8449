use Rattle.mc_cert.proofs.PlainTextLemmas.{IsString-key}
use Rattle.mc_cert.proofs.token_reader.read_key.Goals as goal

-- The name of a key is written as it is.
pub returns-in-Some : goal.returns-in-Some
returns-in-Some c =
    let read = IsString-key c.in-Some.found.0 c.args.text.now c.in-Some.found.1.now c.in-Some.ensures in
    record { content = read.content; rest = read.lexemes }
