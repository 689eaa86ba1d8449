use Rattle.std.proofs.Common.{◌≡◌, ◌+◌, ◌≤◌, ℕ, List, ◌++◌, length}
use Rattle.mc_tables.specs.LinesSoFar.{read_after}
use Rattle.mc_tables.proofs.lines.rows.read_piece.Given as goal

-- Reading the bytes that are left from the new state on is reading the piece from the old one on.
abbrev pub invariant-lines : goal.invariant-lines
invariant-lines g l =
    ((more : List ℕ) →
    read_after g.R.TableRows.header (g.R.TableRows.table l.fn.rows) l.fn.lines (l.fn.piece ++ more)
    ≡ read_after g.R.TableRows.header (g.R.TableRows.table l.rows) l.lines (l.rest ++ more))
    × (l.lines.size + length l.rest ≡ l.fn.lines.size + length l.fn.piece)
    × (l.lines.size + length l.rest ≤ 16777216)
    × (g.R.TableRows.is_valid l.fn.rows → g.R.TableRows.is_valid l.rows)

abbrev pub decreases-lines : goal.decreases-lines
decreases-lines g l = length l.rest
