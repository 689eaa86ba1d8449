-- The input that the files of a folder denote (docs/FORMATS.md, "The files of a folder").
use Rattle.std.specs.Prelude.{◌≤◌, false, List, length, None}
use Rattle.std.specs.List.{AllByRecursion}
use Rattle.mc_bundle.specs.Bundle.{PartText, max_part}
use Rattle.mc_files.specs.Files.{FileText}
use Rattle.mc_files.specs.Layout.{slots}
use Rattle.mc_files.specs.Packing.{ArePacked}
use Rattle.mc_input.specs.Input.{InputValue, PartsDenoteInput}

-- The parts that are packed from the files, without a certificate, denote the input, and none is larger than
-- a part may be.
pub record FilesDenoteInput (files : List FileText) (input : InputValue) : Type 0 where
  pub parts : List PartText
  pub packed : ArePacked files (slots false input.topology) parts
  pub sizes : AllByRecursion (λ part. length part.bytes ≤ max_part) parts
  pub parts_denote : PartsDenoteInput parts input None
