use Rattle.std.proofs.Common.{ℕ, List, length, ◌+◌, ◌≡◌}
use Rattle.std.specs.Io.KnownBytes.{Consumes}
use Rattle.mc_bundle.proofs.parts_input.skip_rest.Given as goal

-- The bytes taken so far and those that are still unread are as many as the part had left.
abbrev pub invariant-skipping : goal.invariant-skipping
invariant-skipping g l = record {
  same : g.R.Input.borrows l.input ≡ g.R.Input.borrows l.fn.input;
  failures : g.R.Input.failed l.input ≡ g.R.Input.failed l.fn.input;
  long : length l.buffer ≡ 4096;
  bytes : (bytes : List ℕ) × Consumes (g.R.Input.remaining l.fn.input) (g.R.Input.remaining l.input) bytes
      × (length bytes + l.unread ≡ l.left);
}

abbrev pub decreases-skipping : goal.decreases-skipping
decreases-skipping g l = l.unread
