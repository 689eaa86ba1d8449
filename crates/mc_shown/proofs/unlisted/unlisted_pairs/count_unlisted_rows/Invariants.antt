use Rattle.std.proofs.Common.{◌≡◌, ◌≤◌, ◌*◌, take}
use Rattle.mc_shown.specs.UnlistedText.{count_unlisted_rows}
use Rattle.mc_shown.proofs.unlisted.unlisted_pairs.count_unlisted_rows.Given as goal

-- the number is that of the rows that the summaries so far count; each counts fewer than 2^32, so 128 bits
-- hold it
abbrev pub invariant-loop-own : goal.invariant-loop-own
invariant-loop-own l = record {
  so_far : l.rows ≡ count_unlisted_rows (take l.own-index l.summary);
  few : l.rows ≤ l.own-index * 4294967295;
}
