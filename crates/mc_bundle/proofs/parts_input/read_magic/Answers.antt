-- The first 17 bytes, or all if there are fewer, aren't the first line: the text doesn't begin with it.
use Rattle.std.proofs.Common.{arith, sym}
use Rattle.std.proofs.lemmas.Bool.{not-true}
use Rattle.mc_bundle.proofs.PartsLemmas.{reads_as-no_magic}
use Rattle.mc_bundle.proofs.parts_input.read_magic.Goals as goal

pub returns-then-ne-clause-reads : goal.returns-then-ne-clause-reads
returns-then-ne-clause-reads g c =
    reads_as-no_magic _ _ c.fill_buffer.new.buffer c.in_ok-count.count
    (omega (arith, c.fill_buffer.auto.buffer))
    c.in_ok-count.ensures.bound c.in_ok-count.ensures.bytes c.in_ok-count.ensures.end
    (not-true _ (sym c.if-ne.ensures))
