-- The four are the first words of the line, and ascend from
-- `next`, so that each comes behind those before it.
use Rattle.std.proofs.Common.{◌∷◌, [], arith}
use Rattle.mc_tables.proofs.FourOifLemmas.{first_words-four_oifs}
use Rattle.mc_tables.proofs.cache.four_oifs.add_four_oifs.Goals as goal

pub returns-clause-added : goal.returns-clause-added
returns-clause-added c =
    let a = c.printed_oif-first in
    let b = c.printed_oif-second in
    let d = c.printed_oif-third in
    let e = c.printed_oif-fourth in
    let read = first_words-four_oifs c.args.line.now c.args.next a.result b.result d.result e.result
    a.ensures.word b.ensures.word d.ensures.word e.ensures.word (omega (arith, c.if-first-next.false))
    (omega (arith, c.if-second-first.false)) (omega (arith, c.if-third-second.false))
    (omega (arith, c.if-fourth-third.false)) (omega (arith, c.if-fourth-gt-MAX_VIF.false)) in (
      read.0,
      a.result ∷ b.result ∷ d.result ∷ e.result ∷ [],
      read.1,
      c.in_ok-extend_from_slice.ensures.items,
      read.2,
    )
