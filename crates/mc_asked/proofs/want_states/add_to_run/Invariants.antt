use Rattle.std.proofs.Common.{◌≡◌, length}
use Rattle.mc_asked.specs.GroupRun.{with_run}
use Rattle.mc_asked.specs.WantStates.{want_with_row}
use Rattle.mc_asked.proofs.want_states.add_to_run.Given as goal

-- The wants of the run before this place have the row, and the others are as they were.
abbrev pub invariant-loop-place : goal.invariant-loop-place
invariant-loop-place l = record {
  size : length l.wants.items ≡ length l.initial.wants.items;
  items : l.wants.items
      ≡ with_run (want_with_row l.vifs l.key l.entry) (l.fn.run.0, l.place) l.initial.wants.items;
}
