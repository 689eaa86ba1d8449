use Rattle.std.proofs.Common.{◌≡◌, ◌+◌, ◌<◌, ◌≤◌, ◌++◌, ℕ, List, [], Some, length}
use Rattle.mc_text.specs.Lines.{max_text}
use Rattle.mc_bundle.specs.declared.stage.Stage.TheVariants as stages
use Rattle.mc_bundle.specs.PartsReading.{parts_from_current}
use Rattle.mc_bundle.specs.RestOfBundle.{Advances}
use Rattle.mc_bundle.proofs.fed_part.feed_part.Given as goal

-- The bundle is still that of the start, as its current part is `done` and what comes later; and the reader's
-- result is the same for the bytes fed and more as for more alone now.
abbrev pub invariant-pieces : goal.invariant-pieces
invariant-pieces g l = record {
  advances : Advances l.fn.parts l.parts;
  failures : l.parts.failed ≡ l.fn.parts.failed;
  opened : l.parts.stage ≡ stages.Part;
  name : l.parts.name ≡ l.fn.parts.name;
  room : 0 < length l.buffer;
  part : (text : List ℕ) → l.fn.parts.remaining ≡ Some text →
      (later : List ℕ) × (done : List ℕ) × (l.parts.remaining ≡ Some later)
      × (parts_from_current l.fn.parts [] text ≡ parts_from_current l.parts done later)
      × (g.P.PieceReader.size l.reader ≤ length done)
      × (length done + l.parts.left ≤ max_text)
      × ((more : List ℕ) → length done + length more ≤ max_text →
      g.P.PieceReader.result_after l.fn.reader (done ++ more) ≡ g.P.PieceReader.result_after l.reader more);
}

-- Each piece takes something from what is left of the part.
abbrev pub decreases-pieces : goal.decreases-pieces
decreases-pieces g l = l.parts.left
