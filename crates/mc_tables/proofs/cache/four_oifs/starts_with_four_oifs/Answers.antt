-- All lanes pass exactly if each byte is in the range of its place, or the other one that is allowed there.
use Rattle.std.proofs.Common.{arith, drop, take}
use Rattle.std.proofs.lemmas.List.{length-drop, length-take-le}
use Rattle.mc_tables.proofs.FourOifLemmas.{four_oifs-from_bytes}
use Rattle.mc_tables.proofs.cache.four_oifs.starts_with_four_oifs.Goals as goal

pub returns : goal.returns
returns c = record {
  value = λ all.
      let line = c.args.line.now in
      let more = take 4 (drop 12 line) in
      let four = length-take-le 4 (drop 12 line) (omega (arith, length-drop 12 line, c.requires.within)) in
      four_oifs-from_bytes line more c.bytes_of_four-text.result c.bytes_of_four-text.ensures.value four
      c.requires.within c.type_inv.line all;
}
