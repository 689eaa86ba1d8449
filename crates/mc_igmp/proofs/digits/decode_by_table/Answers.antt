use Rattle.std.proofs.Common.{arith, ◌∙◌}
use Rattle.std.proofs.lemmas.Bool.{ltb-true}
use Rattle.hex.proofs.HexLemmas.{decode_of-even}
use Rattle.hex.proofs.Pairs.{decode_done}
use Rattle.mc_igmp.proofs.DigitLemmas.{decode_pairs_more, decode_pairs_refused_more}
use Rattle.mc_igmp.proofs.digits.decode_by_table.Goals as goal

-- The value of a byte that is no digit is 16, a bit that stays set among those of all values.
pub loop-i-preserved : goal.loop-i-preserved
loop-i-preserved c =
    let at = c.loop-i in
    let digits = c.args.digits.now in
    let high = c.hex_value_or_16-high in
    let low = c.hex_value_or_16-low in
    record {
      digits = decode_pairs_more digits at.bytes at.i at.values high.result low.result c.byte_of.result
          (omega arith) (omega arith) high.ensures low.ensures c.byte_of.ensures at.invariant.digits;
      others = decode_pairs_refused_more digits at.i at.values high.result low.result
          (omega arith) high.ensures low.ensures at.invariant.others;
    }

-- No such bit is set, so that all bytes are digits, and all of them were decoded.
pub returns-clause-found : goal.returns-clause-found
returns-clause-found c = λ below.
    decode_of-even c.args.digits.now (omega arith)
    ∙ decode_done c.args.digits.now c.loop-i.bytes c.loop-i.i (omega arith) (omega arith)
    (c.loop-i.invariant.digits (ltb-true _ _ below))
