use Rattle.std.proofs.Common.{length, ◌-◌, ◌≡◌, ◌≤◌, take}
use Rattle.std.specs.Io.KnownBytes.{Appends}
use Rattle.mc_bundle.proofs.io.output_bytes.write_all.Given as goal

-- The output took the front of the text, as far as it was counted.
abbrev pub invariant-loop-taken : goal.invariant-loop-taken
invariant-loop-taken g l = record {
  same : g.W.Output.borrows l.output ≡ g.W.Output.borrows l.fn.output;
  failures : g.W.Output.failed l.output ≡ g.W.Output.failed l.fn.output;
  within : l.taken ≤ length l.text;
  bytes : Appends (g.W.Output.written l.fn.output) (g.W.Output.written l.output) (take l.taken l.text);
}

-- Each write takes more of the text.
abbrev pub decreases-loop-taken : goal.decreases-loop-taken
decreases-loop-taken g l = length l.text - l.taken
