use Rattle.std.proofs.Common.{arith}
use Rattle.mc_tables.proofs.FourOifLemmas.{printed_oif-has_digits, printed_vif-fits}
use Rattle.mc_tables.proofs.FourOifLemmas.{first_word-printed_oif_at}
use Rattle.mc_tables.proofs.cache.four_oifs.printed_oif.Goals as goal

-- The ones of the vif are a decimal digit.
pub overflow_sub-vif : goal.overflow_sub-vif
overflow_sub-vif c = (printed_oif-has_digits c.args.line.now c.args.at c.requires.printed).0

-- The tens are at most 15, the last four bits of a byte, and the ones at most 9: the vif fits in a byte.
pub overflow_add-vif-3 : goal.overflow_add-vif-3
overflow_add-vif-3 c = printed_vif-fits c.args.line.now c.args.at c.requires.printed

-- The threshold is a decimal digit.
pub overflow_sub-threshold : goal.overflow_sub-threshold
overflow_sub-threshold c =
    let at = printed_oif-has_digits c.args.line.now c.args.at c.requires.printed in omega (arith, at.2)

-- The bytes are a space, a vif with a space or a digit for its
-- tens, a colon, a digit and two spaces: one word.
pub returns : goal.returns
returns c = record {
  word = λ top. first_word-printed_oif_at c.args.line.now c.args.at c.requires.long c.requires.printed top;
}
