use Rattle.std.proofs.Common.{Some, None, ap, ◌∙◌}
use Rattle.std.proofs.lemmas.List.{length-set}
use Rattle.std.proofs.lemmas.List.Elements.{All-nil}
use Rattle.mc_text.specs.Pair.{pair_of}
use Rattle.mc_filter.proofs.AskedLemmas.{ListsAsChannels-more}
use Rattle.mc_filter.proofs.ListedSourcesLemmas.{AreListedUpTo-found, AreListedUpTo-missed}
use Rattle.mc_filter.proofs.tally.Tally.list_sources.Goals as goal

-- The next source makes the channel at the place that was found, whose state is updated there; no
-- other channel has its number.
pub loop-source-preserved-in-Some-place_of : goal.loop-source-preserved-in-Some-place_of
loop-source-preserved-in-Some-place_of c =
    let before = c.loop-source.invariant in
    let found = c.in-Some-place_of.ensures.found in
    let pair = c.pair_number-number.ensures.pair in
    rw c.after_listing.ensures.value (record {
      excludes = before.excludes;
      count = length-set _ c.in-Some-place_of.place _ ∙ before.count;
      each = AreListedUpTo-found c.args.channels.now c.args.group_record.now c.args.before c.in-Some.source
          c.next.new.self c.loop-source.self.states.items c.args.self.now.states.items
          (rw c.in-Some.ensures.steps at before.each) c.in-Some-place_of.place c.index.result.now (record {
            ascending = c.place_of.ensures.ascending;
            count = before.count ∙ c.requires.room;
            within = found.0;
            channel_is = ap pair_of found.1 ∙ pair;
            state = c.index.ensures;
          });
      more = λ none.
          let parts = c.asks_more_by-self.ensures none in
          let earlier = (rw c.in-Some.ensures.steps at before.more) parts.0 in (
            earlier.0,
            λ left. earlier.1 (ListsAsChannels-more c.args.channels.now c.args.group_record.now
                c.in-Some.source c.pair_number-number.result c.next.new.self (Some c.in-Some-place_of.place)
                pair found tt (parts.1 ∙ c.is_include-by_include.ensures) left),
          );
    })

-- The next source makes no channel of the index, so that no state depends on it.
pub loop-source-preserved : goal.loop-source-preserved
loop-source-preserved c =
    let before = c.loop-source.invariant in
    let missed = c.in-None-place_of.ensures.none in
    let pair = c.pair_number-number.ensures.pair in
    record {
      excludes = before.excludes;
      count = before.count;
      each = AreListedUpTo-missed c.args.channels.now c.args.group_record.now c.args.before c.in-Some.source
          c.next.new.self c.loop-source.self.states.items c.args.self.now.states.items
          (rw c.in-Some.ensures.steps at before.each) c.pair_number-number.result pair missed;
      more = λ none.
          let parts = c.asks_more_by-self-in-None-place_of.ensures none in
          let earlier = (rw c.in-Some.ensures.steps at before.more) parts.0 in (
            earlier.0,
            λ left. earlier.1 (ListsAsChannels-more c.args.channels.now c.args.group_record.now
                c.in-Some.source c.pair_number-number.result c.next.new.self None
                pair tt missed (parts.1 ∙ c.is_include-by_include.ensures) left),
          );
    }

-- No source is left, so that each of them was seen to make a channel or not, as the record's kind
-- wants it.
pub returns-clause-more : goal.returns-clause-more
returns-clause-more c = λ none.
    let parts = c.loop-source.invariant.more none in
    (parts.0, (rw c.in-None.ensures.steps.0 at parts.1) (All-nil _))
