use Rattle.std.proofs.Common.{length, take, ◌-◌, ◌≡◌, ◌≤◌}
use Rattle.std.specs.Io.KnownBytes.{Consumes}
use Rattle.mc_text.proofs.ByteLemmas.{HasNoByte}
use Rattle.mc_bundle.proofs.parts_input.read_line.Given as goal

-- The bytes taken so far are at the front of the line's buffer, and none is a line feed.
abbrev pub invariant-bytes : goal.invariant-bytes
invariant-bytes g l = record {
  same : g.R.Input.borrows l.input ≡ g.R.Input.borrows l.fn.input;
  failures : g.R.Input.failed l.input ≡ g.R.Input.failed l.fn.input;
  long : length l.line ≡ 96;
  within : l.count ≤ 96;
  bytes : Consumes (g.R.Input.remaining l.fn.input) (g.R.Input.remaining l.input) (take l.count l.line);
  without : HasNoByte 10 (take l.count l.line);
}

-- Each byte takes a place of the 96.
abbrev pub decreases-bytes : goal.decreases-bytes
decreases-bytes g l = 96 - l.count
