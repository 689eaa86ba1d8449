use Rattle.std.proofs.Common.{◌≡◌, ◌≤◌, ◌+◌, ◌++◌, length}
use Rattle.std.specs.Prelude.{vec_capacity, vec_len}
use Rattle.std.specs.Vec.Iter.{into_iter_items, into_iter_len}
use Rattle.mc_forward.specs.Assembling.{vifs_by_tables}
use Rattle.mc_forward.proofs.assemble.move_vifs.Given as goal

-- The vifs that were moved and those that the iterator still has are together all of them, and there
-- is room for the latter.
abbrev pub invariant-loop-own : goal.invariant-loop-own
invariant-loop-own l = record {
  moved : l.vifs.items ++ vifs_by_tables (into_iter_items l.own-iterator)
      ≡ vifs_by_tables l.fn.tables.items;
  left : into_iter_len l.own-iterator ≡ length (into_iter_items l.own-iterator);
  room : vec_len l.vifs + into_iter_len l.own-iterator ≤ vec_capacity l.vifs;
}
