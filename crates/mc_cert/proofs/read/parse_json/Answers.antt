use Rattle.std.proofs.Common.{refl, ap, rules}
use Rattle.std.proofs.lemmas.Str.{is_utf8-from_IsUtf8}
use Rattle.serde_json.specs.Errors.{IsMemory}
use Rattle.mc_cert.specs.declared.fault.At.TheVariants.{Top}
use Rattle.mc_cert.specs.Answer.{locate_fault}
use Rattle.mc_cert.specs.Reading.{parse_json}
use Rattle.mc_cert.proofs.ReadLemmas.{parse_json-NotJson}
use Rattle.mc_cert.proofs.read.parse_json.Goals as goal

-- What JSON's reader accepts is UTF-8, and its value is the text's.
pub returns-in-Ok : goal.returns-in-Ok
unfolding parse_json
returns-in-Ok c = rw (
  is_utf8-from_IsUtf8 c.args.text.now c.in-Ok.ensures.ok.0,
  c.in-Ok.ensures.ok.1,
) refl

-- A text that is refused without want of memory is no UTF-8 or no JSON.
pub returns-in-Err-2 : goal.returns-in-Err-2
returns-in-Err-2 c =
    let calm : ¬ IsMemory c.in-Err-2.field-0 = search rules in
    rw c.at-in-Err-2.ensures
    (λ _. ap (locate_fault Top)
    (parse_json-NotJson c.args.text.now (λ utf8. c.in-Err-2.ensures.err calm utf8)))
