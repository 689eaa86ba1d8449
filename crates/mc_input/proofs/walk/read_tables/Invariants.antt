use Rattle.std.proofs.Common.{◌≡◌, ◌<◌, ◌+◌, ◌*◌, List, Some, drop, length, map}
use Rattle.mc_forward.specs.RouterTables.{kept_of_tables}
use Rattle.mc_input.specs.Stream.{RouterRead, Stream, read_router, read_routers, read_stream}
use Rattle.mc_input.proofs.WalkLemmas.{read_each_after}
use Rattle.mc_input.proofs.walk.read_tables.Given as goal

-- Reading the routers that are left from what is left of the stream, after those so far, gives what
-- reading them all gives.
abbrev pub invariant-loop-router : goal.invariant-loop-router
invariant-loop-router g l = record {
  advances : g.S.Slots.advances l.fn.slots l.slots;
  failures : g.S.Slots.failed l.slots ≡ g.S.Slots.failed l.fn.slots;
  room : 0 < length l.buffer;
  end : l.router-end ≡ length l.fn.topology.routers;
  settings : g.K.CacheKeeper.settings l.keeper ≡ g.K.CacheKeeper.settings l.fn.keeper;
  count : length l.tables.vifs ≡ l.router;
  flows : l.tables.flows ≡ length l.fn.topology.flows;
  taken : (stream : Stream) → g.S.Slots.gives l.fn.slots l.fn.topology 1 ≡ Some stream →
      (later : Stream) × (reads : List RouterRead)
      × (g.S.Slots.gives l.slots l.fn.topology (1 + 2 * l.router) ≡ Some later)
      × (l.tables ≡ kept_of_tables l.fn.topology.flows (map (λ read. read.tables) reads))
      × g.K.CacheKeeper.has_kept l.keeper l.fn.topology.flows reads
      × (read_stream (read_routers l.fn.topology.routers) stream
      ≡ read_stream (read_each_after (λ r. read_router r.order) reads
      (drop l.router l.fn.topology.routers)) later);
}
