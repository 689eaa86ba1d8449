use Rattle.std.proofs.Common.{◌≡◌, ◌<◌, not, length, get_or, sym, ap, ◌∙◌, arith}
use Rattle.std.proofs.lemmas.Grind.{elements}
use Rattle.std.proofs.lemmas.List.{get_or_default}
use Rattle.mc_filter.specs.declared.channels.ChannelPlace.{ChannelPlace}
use Rattle.mc_filter.proofs.ChannelLemmas.{wanted_answers_more, wanted_answer-from_tallied}
use Rattle.mc_filter.proofs.channels.wanted_answers.Goals as goal

-- The answer at this turn is right for its own place, as the tally says of the state there; the
-- answers before it are as they were.
pub loop-place-preserved : goal.loop-place-preserved
loop-place-preserved c =
    let before = c.loop-place.invariant in
    let places = c.args.places.now in
    let answers = c.loop-place.answers.items in
    let index = c.loop-place.place-index in
    let place : ChannelPlace = get_or places index (record { group = 0; channel = 0 }) in
    let below : length answers < length places =
    omega (arith, before.count, c.loop-place-test.true) in
    let own : place ≡ get_or places (length answers) place =
    get_or_default places index (record { group = 0; channel = 0 }) place c.loop-place-test.true
    ∙ ap (λ n. get_or places n place) (sym before.count) in
    rw c.in_ok-push.ensures.items (record {
      count = grind (arith, elements, before.count);
      each = λ groups channels records size at tallied.
          wanted_answers_more channels records places answers place (not c.is_unwanted.result) below
          own
          (wanted_answer-from_tallied groups channels records c.args.tally.now.excludes.items
          c.args.tally.now.states.items place c.index.result.now c.index-excludes.result.now
          (not c.is_unwanted.result) size tallied
          (at index (record { group = 0; channel = 0 }) c.loop-place-test.true)
          c.index.ensures c.index-excludes.ensures (ap not c.is_unwanted.ensures))
          (before.each groups channels records size at tallied);
    })
