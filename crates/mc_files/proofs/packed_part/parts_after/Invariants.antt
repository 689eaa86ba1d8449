use Rattle.std.proofs.Common.{◌≡◌, List, [], ◌∷◌, drop, length, Some}
use Rattle.mc_files.specs.Files.{FileText}
use Rattle.mc_files.specs.Layout.{slots_after_topology, slots}
use Rattle.mc_files.specs.PackReading.{parts_after}
use Rattle.mc_files.proofs.packed_part.parts_after.Given as goal

-- Reading the slots to come behind the parts so far ends as reading all does. The source has the same
-- files, and no call failed.
abbrev pub invariant-loop-number : goal.invariant-loop-number
invariant-loop-number g l = record {
  count : l.number-end ≡ length (slots l.fn.certified l.fn.topology);
  same : g.F.FileSource.borrows l.files ≡ g.F.FileSource.borrows l.fn.files;
  kept : g.F.FileSource.contents l.files ≡ g.F.FileSource.contents l.fn.files;
  failures : g.F.FileSource.failed l.files ≡ g.F.FileSource.failed l.fn.files;
  left : (contents : List FileText) → g.F.FileSource.contents l.fn.files ≡ Some contents
      → parts_after contents l.parts.items (drop l.number (slots l.fn.certified l.fn.topology))
      ≡ parts_after contents (l.fn.first ∷ []) (slots_after_topology l.fn.certified l.fn.topology);
}
