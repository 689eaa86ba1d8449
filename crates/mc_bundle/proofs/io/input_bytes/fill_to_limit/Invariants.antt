use Rattle.std.proofs.Common.{◌-◌, ◌≡◌, ◌≤◌, vec_len}
use Rattle.mc_bundle.specs.ReadFault.{ReadsOnto}
use Rattle.mc_bundle.proofs.io.input_bytes.fill_to_limit.Given as goal

-- What the input gave so far was appended, and not past the limit.
abbrev pub invariant-reading : goal.invariant-reading
invariant-reading g l = record {
  same : g.R.Input.borrows l.input ≡ g.R.Input.borrows l.fn.input;
  failures : g.R.Input.failed l.input ≡ g.R.Input.failed l.fn.input;
  within : vec_len l.bytes ≤ l.limit;
  bytes : ReadsOnto (g.R.Input.remaining l.fn.input) (g.R.Input.remaining l.input) l.fn.bytes.items
      l.bytes.items;
}

-- Each read leaves less room up to the limit.
abbrev pub decreases-reading : goal.decreases-reading
decreases-reading g l = l.limit - vec_len l.bytes
