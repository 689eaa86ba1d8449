use Rattle.std.proofs.Common.{◌≡◌, ◌++◌, ◌<◌, ℕ, List, Some, length}
use Rattle.mc_bundle.specs.declared.stage.Stage.TheVariants as stages
use Rattle.mc_bundle.specs.PartsReading.{parts_from_current}
use Rattle.mc_bundle.specs.RestOfBundle.{Advances}
use Rattle.mc_bundle.proofs.part_bytes.collect_part.Given as goal

-- The bundle is still that of the start, with the bytes collected so far behind those done before.
abbrev pub invariant-pieces : goal.invariant-pieces
invariant-pieces g l = record {
  advances : Advances l.fn.parts l.parts;
  failures : l.parts.failed ≡ l.fn.parts.failed;
  opened : l.parts.stage ≡ stages.Part;
  name : l.parts.name ≡ l.fn.parts.name;
  room : 0 < length l.buffer;
  bytes : (text done : List ℕ) → l.fn.parts.remaining ≡ Some text →
      (later : List ℕ) × (l.parts.remaining ≡ Some later)
      × (parts_from_current l.fn.parts done text ≡ parts_from_current l.parts (done ++ l.bytes.items) later);
}

-- Each piece takes something from what is left of the part.
abbrev pub decreases-pieces : goal.decreases-pieces
decreases-pieces g l = l.parts.left
