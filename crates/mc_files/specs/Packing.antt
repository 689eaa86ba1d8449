-- The bundle that a folder's files are packed into.
use Rattle.std.specs.Prelude.{◌≡◌, ℕ, Bool, List, [], ◌∷◌, codes, Some, ⊤}
use Rattle.mc_bundle.specs.Bundle.{PartText, AreWithinLimits}
use Rattle.mc_topology.specs.Topology.{TopologyValue}
use Rattle.mc_topology.specs.Denotation.{DenotesBoundedTopology}
use Rattle.mc_files.specs.Files.{FileText, file_named}
use Rattle.mc_files.specs.Layout.{Slot, file_name, part_name, slots}

-- there is a part for each slot: it has the slot's name in a bundle, and the bytes of the slot's
-- file
abbrev pub ArePacked : List FileText → List Slot → List PartText → Type 0
ArePacked files [] [] = ⊤
ArePacked files (slot ∷ others) (part ∷ parts) =
    (part.name ≡ part_name slot) × (file_named files (file_name slot) ≡ Some part.bytes)
    × ArePacked files others parts
ArePacked files _ _ = ⊥

-- These are the parts of the bundle that the files are packed into: the file `topology` denotes a
-- topology within the bounds of what is read, and each slot of that topology has its part, in
-- order. They are within the limits of a bundle.
pub record IsPacked (files : List FileText) (certified : Bool) (parts : List PartText) : Type 0
  where
    pub text : List ℕ
    pub topology : TopologyValue
    pub first : file_named files (codes "topology") ≡ Some text
    pub denotes : DenotesBoundedTopology text topology
    pub each : ArePacked files (slots certified topology) parts
    pub limits : AreWithinLimits parts
