use Rattle.std.proofs.Common.{length, take, ◌-◌, ◌≡◌, ◌≤◌}
use Rattle.std.specs.Io.KnownBytes.{Consumes}
use Rattle.mc_bundle.proofs.parts_input.fill_buffer.Given as goal

-- What the input gave so far is at the buffer's front.
abbrev pub invariant-filling : goal.invariant-filling
invariant-filling g l = record {
  same : g.R.Input.borrows l.input ≡ g.R.Input.borrows l.fn.input;
  failures : g.R.Input.failed l.input ≡ g.R.Input.failed l.fn.input;
  within : l.count ≤ length l.buffer;
  bytes : Consumes (g.R.Input.remaining l.fn.input) (g.R.Input.remaining l.input) (take l.count l.buffer);
}

-- Each read fills more of the buffer.
abbrev pub decreases-filling : goal.decreases-filling
decreases-filling g l = length l.initial.buffer - l.count
