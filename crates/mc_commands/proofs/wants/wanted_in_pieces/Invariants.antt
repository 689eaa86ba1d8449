use Rattle.std.proofs.Common.{◌≡◌, ◌-◌, ◌≤◌, ℕ, List, length}
use Rattle.std.specs.Io.KnownBytes.{Consumes}
use Rattle.mc_commands.specs.WantsSoFar.{ReadsPiece}
use Rattle.mc_commands.proofs.wants.wanted_in_pieces.Given as goal

-- The bytes so far were taken from the front of the input, and the reader has read them; by their records the
-- LAN wants the channel, or not.
abbrev pub invariant-reading : goal.invariant-reading
invariant-reading g l = record {
  same : g.R.Input.borrows l.input ≡ g.R.Input.borrows l.fn.input;
  failures : g.R.Input.failed l.input ≡ g.R.Input.failed l.fn.input;
  pieces_read : (bytes : List ℕ) × (length bytes ≡ l.reader.size)
      × Consumes (g.R.Input.remaining l.fn.input) (g.R.Input.remaining l.input) bytes
      × ReadsPiece l.fn.reader l.reader bytes l.group l.source l.wanted;
  within : l.reader.size ≤ 16777217;
}

abbrev pub decreases-reading : goal.decreases-reading
decreases-reading g l = 16777217 - l.reader.size
