use Rattle.std.proofs.Common.{◌≡◌, ◌<◌, length, get_or, true, Some, sym, ap, ◌∙◌, arith}
use Rattle.json.specs.Run.{is_plain}
use Rattle.mc_cert.proofs.JsonStringLemmas.{StringSoFar-more, StringSoFar-ends}
use Rattle.mc_cert.proofs.TokenReaderLemmas.{split_first}
use Rattle.mc_cert.proofs.json_string.read_string.Goals as goal

-- One more byte denotes itself.
pub loop-end-preserved : goal.loop-end-preserved
loop-end-preserved c =
    let text = c.args.text.now in
    let within : c.loop-end.end < length text = grind arith in
    let plain : is_plain (get_or text c.loop-end.end 0) ≡ true = grind arith in
    StringSoFar-more text c.loop-end.end c.loop-end.invariant within plain

-- Up to the closing quotation mark each byte denotes itself.
pub returns-in-34-clause-content : goal.returns-in-34-clause-content
returns-in-34-clause-content c =
    let text = c.args.text.now in
    let rest = c.split_at.result.1.now in
    let first : get_or rest 0 0 ≡ 34 = grind arith in
    let is = sym c.split_at.ensures.back ∙ split_first 34 rest c.in-34.len_at_least first in
    (StringSoFar-ends text _ c.loop-end.end c.loop-end.invariant is).0
    ∙ ap Some (sym c.split_at.ensures.front)

-- What is left behind the mark are the lexemes behind the string.
pub returns-in-34-clause-rest : goal.returns-in-34-clause-rest
returns-in-34-clause-rest c =
    let text = c.args.text.now in
    let rest = c.split_at.result.1.now in
    let first : get_or rest 0 0 ≡ 34 = grind arith in
    let is = sym c.split_at.ensures.back ∙ split_first 34 rest c.in-34.len_at_least first in
    (StringSoFar-ends text _ c.loop-end.end c.loop-end.invariant is).1
