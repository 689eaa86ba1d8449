use Rattle.std.proofs.Common.{◌≡◌, ◌<◌, ◌^◌, length}
use Rattle.std.specs.Prelude.{map}
use Rattle.mc_tables.specs.UnlistedRows.{key_number}
use Rattle.mc_tables.proofs.DistinctLemmas.{AreSlotted}
use Rattle.mc_tables.proofs.summary.distinct.are_keys_distinct.Given as goal

-- the keys of the rows before i have left their marks or are among
-- the others, and the slots stay as many as they were made
abbrev pub invariant-loop-i : goal.invariant-loop-i
invariant-loop-i l = record {
  slotted : AreSlotted l.slots.items l.others.items (map key_number l.rows) l.i;
  size : length l.slots.items ≡ l.count;
  some : 0 < l.count;
  few : l.count < 2 ^ 32;
}
