use Rattle.std.proofs.Common.{◌≡◌, ◌<◌, ℕ, ◌+◌, Bool, List, Some, drop, length, slice_get}
use Rattle.mc_igmp.specs.declared.record.Record.{Record}
use Rattle.mc_files.specs.Layout.{first_lan_number}
use Rattle.mc_input.specs.Kept.{AreWantedBy}
use Rattle.mc_input.specs.Stream.{Stream, read_lan, read_lans, read_stream}
use Rattle.mc_input.proofs.WalkLemmas.{read_each_after}
use Rattle.mc_input.proofs.walk.read_wants.Given as goal

-- Reading the LANs that are left from what is left of the stream, after those so far, gives what
-- reading them all gives.
abbrev pub invariant-loop-lan : goal.invariant-loop-lan
invariant-loop-lan g l = record {
  advances : g.S.Slots.advances l.fn.slots l.slots;
  failures : g.S.Slots.failed l.slots ≡ g.S.Slots.failed l.fn.slots;
  room : 0 < length l.buffer;
  end : l.lan-end ≡ length l.fn.topology.lans;
  count : length l.wants.items ≡ l.lan;
  ready : g.L.ListKeeper.is_ready l.keeper l.fn.topology.flows;
  settings : g.L.ListKeeper.settings l.keeper ≡ g.L.ListKeeper.settings l.fn.keeper;
  flows : (lan : ℕ) (wanted : List Bool) → slice_get l.wants.items lan ≡ Some wanted
      → length wanted ≡ length l.fn.topology.flows;
  some : (lists : List (List Record)) × (length lists ≡ l.lan) × g.L.ListKeeper.has_kept l.keeper lists;
  taken : (stream : Stream)
      → g.S.Slots.gives l.fn.slots l.fn.topology (first_lan_number l.fn.topology) ≡ Some stream →
      (later : Stream) × (reports : List (List Record))
      × (g.S.Slots.gives l.slots l.fn.topology (first_lan_number l.fn.topology + l.lan) ≡ Some later)
      × AreWantedBy l.fn.topology reports l.wants.items
      × g.L.ListKeeper.has_kept l.keeper reports
      × (length reports ≡ l.lan)
      × (read_stream (read_lans l.fn.topology.lans) stream
      ≡ read_stream (read_each_after (λ lan. read_lan) reports (drop l.lan l.fn.topology.lans)) later);
}
