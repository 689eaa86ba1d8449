use Rattle.std.proofs.Common.{length, sym, ap, ◌≡◌, ◌∙◌, arith}
use Rattle.std.proofs.lemmas.List.{length-map}
use Rattle.mc_filter.specs.ChannelPlaces.{channel_at}
use Rattle.std.proofs.lemmas.List.Elements.{All-nil}
use Rattle.mc_filter.proofs.AskedLemmas.{are_all_asked_for}
use Rattle.mc_filter.proofs.ChannelLemmas.{wanted_answers_all}
use Rattle.mc_filter.proofs.channels.Channels.wanted.Goals as goal

-- There is an answer for each place, and a place for each channel.
pub returns-clause-count : goal.returns-clause-count
returns-clause-count c =
    let places = c.self.inside.places.items in
    let size : length c.args.self.now ≡ length places =
    sym (ap length c.self.view_is)
    ∙ length-map places (channel_at c.self.inside.channels) in
    let count = c.in_ok-wanted.ensures.count in
    let behind = c.deref.ensures.value in
    grind (arith, c.in_ok-wanted.wanted.ok, count, size, behind)

-- The tally counts every record and has none left, so that the state at a place says by itself whether
-- the channel there is wanted.
pub returns-clause-each : goal.returns-clause-each
returns-clause-each c = λ i channel answer at states.
    let groups = c.self.inside.groups in
    let channels = c.self.inside.channels in
    wanted_answers_all channels c.args.reports.now c.self.inside.places.items c.in_ok-wanted.wanted.items
    (c.in_ok-wanted.ensures.count ∙ ap length c.deref.ensures.value)
    (rw c.deref.ensures.value at (c.in_ok-wanted.ensures.each groups channels c.args.reports.now
    c.in_ok-tally.ensures.groups (rw (sym c.deref.ensures.value) at c.self.invariant.0)
    c.in_ok-tally.ensures.each))
    i channel answer (rw (sym c.self.view_is) at at) states

-- If the tally of all records found nothing else asked for, each record keeps to the channels, and
-- then asks for no more than them.
pub returns-clause-all : goal.returns-clause-all
returns-clause-all c = λ none.
    rw c.self.view_is at (are_all_asked_for c.self.inside.groups c.self.inside.channels
    c.self.inside.places.items c.args.reports.now c.self.invariant.0 c.self.invariant.1 c.self.invariant.2
    (c.in_ok-tally.ensures.more none (All-nil _)))
