-- Whether the parts of a bundle are those of a domain, and which is the first that isn't.
use Rattle.std.specs.Prelude.{ℕ, ◌+◌, Bool, List, [], ◌∷◌, map, Option, Some, None, option_map}
use Rattle.std.specs.Prelude.{if◌then◌else◌}
use Rattle.std.specs.Str.{bytes_eq}
use Rattle.mc_bundle.specs.Bundle.{PartText}
use Rattle.mc_topology.specs.Topology.{TopologyValue}
use Rattle.mc_files.specs.Layout.{part_name, slots}

-- the first place, counted from 0, at which two lists of names differ, or one of them has ended and
-- the other has not
abbrev pub first_mismatch : List (List ℕ) → List (List ℕ) → Option ℕ
first_mismatch [] [] = None
first_mismatch [] (other ∷ others) = Some 0
first_mismatch (name ∷ names) [] = Some 0
first_mismatch (name ∷ names) (other ∷ others) =
    if bytes_eq other name then option_map (λ place. place + 1) (first_mismatch names others) else Some 0

-- The place of the first part of a bundle that has another name than the domain's slot there, is
-- missing, or is one too many. There is none if all parts are the domain's.
abbrev pub first_part_mismatch : (certified : Bool) → TopologyValue → List PartText → Option ℕ
first_part_mismatch certified topology parts =
    first_mismatch (map part_name (slots certified topology)) (map (λ part. part.name) parts)
