use Rattle.std.proofs.Common.{◌≡◌, ◌+◌, ◌≤◌, ℕ, List, ◌++◌, length}
use Rattle.mc_text.specs.Lines.{HasNoLineFeed}
use Rattle.mc_igmp.specs.KnownLines.{AreKnownLines}
use Rattle.mc_igmp.specs.ListSoFar.{read_rest_of_lines}
use Rattle.mc_igmp.proofs.line_reader.LineReader.read_piece.Given as goal

-- the rest of the piece, after what was read, reads as the whole piece
abbrev pub invariant-lines : goal.invariant-lines
invariant-lines l = record {
  reads : (more : List ℕ) →
      read_rest_of_lines l.fn.self.list l.fn.self.ended (l.fn.self.begun.items ++ (l.fn.piece ++ more))
      ≡ read_rest_of_lines l.self.list l.self.ended (l.self.begun.items ++ (l.rest ++ more));
  few : l.self.ended + (length l.self.begun.items + length l.rest)
      ≤ l.fn.self.ended + (length l.fn.self.begun.items + length l.fn.piece);
  begun : HasNoLineFeed l.self.begun.items;
  known : AreKnownLines l.self.known l.self.list;
}

abbrev pub decreases-lines : goal.decreases-lines
decreases-lines l = length l.rest
