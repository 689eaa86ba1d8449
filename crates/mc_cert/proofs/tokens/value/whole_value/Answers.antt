use Rattle.std.proofs.Common.{[], refl, sym, append-nil, arith}
use Rattle.std.proofs.Common.{decimal}
use Rattle.serde_json.specs.Data.{number, unsigned}
use Rattle.mc_cert.proofs.TokenLemmas.{Reads-decimal}
use Rattle.mc_cert.proofs.tokens.value.whole_value.Goals as goal

-- A token of decimal digits is JSON's whole number of that value, and the range was tested.
pub returns-clause-value : goal.returns-clause-value
returns-clause-value c =
    let n = c.in_ok-number.number in (
      number (unsigned n),
      Reads-decimal c.args.reader.now (decimal n) [] n c.number.new.self c.in_ok-number.ensures.number
          (sym (append-nil (decimal n))) refl (omega (arith, c.in_ok-number.ensures.small)),
      record { whole = refl; from = omega arith; to = omega arith },
    )
