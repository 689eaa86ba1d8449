use Rattle.std.proofs.Common.{◌≡◌, ◌+◌, ◌<◌, ◌≤◌, ◌++◌, ℕ, List, Some, length}
use Rattle.mc_input.proofs.fed_file.feed_open.Given as goal

-- Some of the bytes were fed, and the rest is left: fed the rest, the reader gives what it would have given
-- of all.
abbrev pub invariant-pieces : goal.invariant-pieces
invariant-pieces g l = record {
  room : 0 < length l.buffer;
  same : g.F.FileSource.borrows l.files ≡ g.F.FileSource.borrows l.fn.files;
  kept : g.F.FileSource.contents l.files ≡ g.F.FileSource.contents l.fn.files;
  failures : g.F.FileSource.failed l.files ≡ g.F.FileSource.failed l.fn.files;
  part : (bytes : List ℕ) → g.F.PieceSource.left l.fn.files ≡ Some bytes →
      (done : List ℕ) × (rest : List ℕ) × (g.F.PieceSource.left l.files ≡ Some rest) × (bytes ≡ done ++ rest)
      × (g.P.PieceReader.size l.reader ≤ length done) × (length done + l.left ≡ l.fn.limit)
      × ((more : List ℕ) → length done + length more ≤ l.fn.limit →
      g.P.PieceReader.result_after l.fn.reader (done ++ more) ≡ g.P.PieceReader.result_after l.reader more);
}

abbrev pub decreases-pieces : goal.decreases-pieces
decreases-pieces g l = l.left
