use Rattle.std.proofs.Common.{◌≡◌, ◌<◌, length, drop, get_or, true, ap, ◌∙◌, arith}
use Rattle.std.proofs.lemmas.List.{take_rest, drop_more}
use Rattle.json.specs.Lex.{between, lex}
use Rattle.json.specs.Word.{is_space}
use Rattle.mc_cert.proofs.TokenReaderLemmas.{lex-space}
use Rattle.mc_cert.proofs.token_reader.skip_space.Goals as goal

-- White space has no lexemes.
pub loop-rest-preserved : goal.loop-rest-preserved
loop-rest-preserved c =
    let rest = c.loop-rest.rest.now in
    let some : 0 < length rest = grind arith in
    let space : is_space (get_or rest 0 0) ≡ true = grind arith in
    rw (take_rest rest 1) (c.loop-rest.invariant ∙ ap (lex between) (drop_more rest 0 0 some)
    ∙ lex-space (get_or rest 0 0) (drop 1 rest) space)
