use Rattle.std.proofs.Common.{refl, arith}
use Rattle.mc_filter.proofs.tally.Tally.none.Goals as goal

-- No group has an EXCLUDE record yet, and each channel's source is listed by the first 0 of them, which
-- are all: so no state wants its channel, and all records are left.
pub returns-clause-each : goal.returns-clause-each
returns-clause-each c = λ gs cs records some count g d' s d below within is.
    let unseen = c.in_ok-resize.ensures.by_index.1 g 0 refl (omega (
      arith,
      c.new-excludes.ensures.len,
    ))
    (omega (arith, below, some)) in
    let state_is = c.in_ok-resize-2.ensures.by_index.1 d' d refl (omega (
      arith,
      c.new-states.ensures.len,
    ))
    (omega (arith, within, count)) in
    rw (unseen, state_is) (record { within = omega arith; wants = refl })
