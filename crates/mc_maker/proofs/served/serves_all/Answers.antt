-- The entry at which the loop ends is one of the list, and doesn't serve its LAN.
use Rattle.std.proofs.Common.{◌∙◌, length, refl, sym}
use Rattle.std.proofs.lemmas.Option.{slice_get_read}
use Rattle.mc_theory.proofs.ListLemmas.{slice_get-in}
use Rattle.mc_maker.proofs.served.serves_all.Goals as goal

pub returns-then-not-serves-clause-some : goal.returns-then-not-serves-clause-some
returns-then-not-serves-clause-some c = λ _. (
  c.entry-item.result,
  slice_get-in c.args.entries.now c.loop-entry.entry-index c.entry-item.result
      (slice_get_read c.args.entries.now (length c.args.entries.now) c.loop-entry.entry-index
      c.entry-item.result refl c.loop-entry-test.true c.entry-item.is),
  sym c.serves.ensures.value ∙ c.if-not-serves.true,
)
