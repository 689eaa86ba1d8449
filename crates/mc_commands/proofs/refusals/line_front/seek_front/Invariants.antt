use Rattle.std.proofs.Common.{◌≡◌, ◌≤◌, ◌<◌, ℕ, List, Some, length, take}
use Rattle.std.specs.Prelude.{vec_len}
use Rattle.mc_commands.specs.LineFront.{front_after_more}
use Rattle.mc_commands.proofs.refusals.line_front.seek_front.Given as goal

-- the front in the end is what the bytes that may still be read make of the present one
abbrev pub invariant-reading : goal.invariant-reading
invariant-reading g l = record {
  same : g.F.FileSource.borrows l.files ≡ g.F.FileSource.borrows l.fn.files;
  kept : g.F.FileSource.contents l.files ≡ g.F.FileSource.contents l.fn.files;
  failures : g.F.FileSource.failed l.files ≡ g.F.FileSource.failed l.fn.files;
  room : 0 < length l.buffer;
  bounded : vec_len l.sought.front ≤ 100;
  front : (text : List ℕ) → g.F.PieceSource.left l.fn.files ≡ Some text → (rest : List ℕ)
      × (g.F.PieceSource.left l.files ≡ Some rest)
      × (front_after_more l.sought (take l.left rest) ≡ front_after_more l.fn.sought (take 16777216 text));
}

abbrev pub decreases-reading : goal.decreases-reading
decreases-reading g l = l.left
