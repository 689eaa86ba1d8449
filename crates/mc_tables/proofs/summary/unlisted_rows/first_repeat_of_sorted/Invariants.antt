use Rattle.std.proofs.Common.{◌≡◌, take}
use Rattle.mc_tables.specs.UnlistedRows.{first_repeat}
use Rattle.mc_tables.proofs.summary.unlisted_rows.first_repeat_of_sorted.Given as goal

-- what was found is the first repeat of the rows before i
abbrev pub invariant-loop-i : goal.invariant-loop-i
invariant-loop-i l = l.first ≡ first_repeat (take l.i l.rows)
