use Rattle.std.proofs.Common.{◌≡◌, ◌&&◌, not, ℕ, ◌<◌, false, length, drop}
use Rattle.std.specs.Prelude.{slice_index_or}
use Rattle.mc_search.specs.SearchReach.{has_event}
use Rattle.mc_search.specs.declared.reach.Handling.TheVariants.{SentOn}
use Rattle.mc_search.proofs.reach.unmark_senders.Given as goal

-- a router keeps its mark in the end exactly if it has one now and none of the events that are left sends
abbrev pub invariant-loop-event : goal.invariant-loop-event
invariant-loop-event l = record {
  count : length l.marks ≡ length l.fn.marks;
  marks : (router : ℕ) → router < length l.fn.marks →
      (slice_index_or l.marks router false && not (has_event SentOn (drop l.event-index l.fn.events) router))
      ≡ (slice_index_or l.fn.marks router false && not (has_event SentOn l.fn.events router));
}
