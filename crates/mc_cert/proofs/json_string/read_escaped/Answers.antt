use Rattle.std.proofs.Common.{◌≡◌, get_or, arith}
use Rattle.mc_cert.proofs.JsonStringLemmas.{UnescapedSoFar-ends}
use Rattle.mc_cert.proofs.TokenReaderLemmas.{split_first}
use Rattle.mc_cert.proofs.json_string.read_escaped.Goals as goal

-- The loop has read up to the closing quotation mark, so that its bytes are the string's.
pub returns-in-34-clause-content : goal.returns-in-34-clause-content
returns-in-34-clause-content c =
    let rest = c.loop-byte.rest.now in
    let first : get_or rest 0 0 ≡ 34 = grind arith in
    (UnescapedSoFar-ends c.args.text.now c.loop-byte.bytes.items rest _ c.loop-byte.invariant
    (split_first 34 rest c.in-34.len_at_least first)).0

-- What is left behind the mark are the lexemes behind the string.
pub returns-in-34-clause-rest : goal.returns-in-34-clause-rest
returns-in-34-clause-rest c =
    let rest = c.loop-byte.rest.now in
    let first : get_or rest 0 0 ≡ 34 = grind arith in
    (UnescapedSoFar-ends c.args.text.now c.loop-byte.bytes.items rest _ c.loop-byte.invariant
    (split_first 34 rest c.in-34.len_at_least first)).1
