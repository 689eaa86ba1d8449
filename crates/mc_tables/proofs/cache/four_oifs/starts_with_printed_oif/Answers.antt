-- All lanes pass only if each byte is in the range of its place, or the other one that is allowed there.
use Rattle.mc_tables.proofs.FourOifLemmas.{printed_oif-from_lanes}
use Rattle.mc_tables.proofs.cache.four_oifs.starts_with_printed_oif.Goals as goal

pub returns : goal.returns
returns c = record {
  value = λ all. printed_oif-from_lanes c.args.line.now c.bytes_of_one-text.result
      c.bytes_of_one-text.ensures.value c.requires.long c.type_inv.line all;
}
