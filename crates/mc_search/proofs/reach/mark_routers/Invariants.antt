use Rattle.std.proofs.Common.{◌≡◌, ◌||◌, ℕ, ◌<◌, false, length, drop}
use Rattle.std.specs.Prelude.{slice_index_or}
use Rattle.mc_search.specs.SearchReach.{has_event}
use Rattle.mc_search.proofs.reach.mark_routers.Given as goal

-- a router is marked in the end exactly if it is now, or an event that is left marks it
abbrev pub invariant-loop-event : goal.invariant-loop-event
invariant-loop-event l = record {
  count : length l.marks ≡ length l.fn.marks;
  marks : (router : ℕ) → router < length l.fn.marks →
      (slice_index_or l.marks router false || has_event l.fn.handling (drop l.event-index l.fn.events) router)
      ≡ (slice_index_or l.fn.marks router false || has_event l.fn.handling l.fn.events router);
}
