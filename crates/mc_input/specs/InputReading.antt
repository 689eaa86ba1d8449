-- The input that a bundle is read as, or the first fault (docs/FORMATS.md, "The parts of a domain"): of the
-- bundle's framing, of the first part's name, of the topology, of the names and the number of the other
-- parts, and of the parts' contents in order.
use Rattle.std.specs.Prelude.{◌≡◌, ℕ, ◌+◌, Bool, true, false, List, [], length, slice_get, unwrap_or}
use Rattle.std.specs.Prelude.{Option, Some, None, Result, Ok, Err, if◌then◌else◌}
use Rattle.std.specs.Str.{bytes_eq}
use Rattle.mc_text.specs.Steps as Steps
use Rattle.mc_text.specs.Steps.{◌>>=◌, map_fault}
use Rattle.mc_bundle.specs.Bundle.{PartText}
use Rattle.mc_bundle.specs.BundleReading.{bundle_of}
use Rattle.mc_topology.specs.Topology.{TopologyValue}
use Rattle.mc_files.specs.PartMismatch.{first_part_mismatch}
use Rattle.mc_files.specs.Layout.{Slot, part_name, slots}
use Rattle.mc_input.specs.Input.{InputValue}
use Rattle.mc_input.specs.PartsReading.{read_input}
use Rattle.mc_input.specs.declared.fault.InputFault.{InputFault}
use Rattle.mc_input.specs.declared.fault.InputFault.TheVariants.{Bundle, Parts, Memory}

-- Memory ran out: the one fault that the definitions don't speak of.
abbrev pub IsMemory : InputFault → Type 0
IsMemory fault = fault ≡ Memory

-- What a call answers, seen through a view, is this, unless memory ran out.
abbrev pub Gives : {X Y : Type 0} → (X → Y) → Result X InputFault → Result Y InputFault → Type 0
Gives = Steps.Gives IsMemory

-- the part, if there is one and it has this name; otherwise the fault of its place, counted from 1, where
-- the number counts from 0
abbrev pub named : Option PartText → (name : List ℕ) → (number : ℕ) → Result PartText InputFault
named None name number = Err (Parts (number + 1))
named (Some part) name number = if bytes_eq part.name name then Ok part else Err (Parts (number + 1))

-- the part with this number, from 0, if it has the name of the slot
abbrev pub part_with_slot_name : List PartText → ℕ → Slot → Result PartText InputFault
part_with_slot_name parts number slot = named (slice_get parts number) (part_name slot) number

-- the fault of the first part that isn't as the domain's slots say, if there is one, by its place, counted
-- from 1
abbrev pub part_name_fault : Option ℕ → Result (Unit {0}) InputFault
part_name_fault None = Ok tt
part_name_fault (Some number) = Err (Parts (number + 1))

-- the check that the parts are those of the domain's slots, by their names and their number
abbrev pub check_part_names : (certified : Bool) → List PartText → TopologyValue
    → Result (Unit {0}) InputFault
check_part_names certified parts topology = part_name_fault (first_part_mismatch certified topology parts)

-- the input of the parts, where `certified` says whether one of them is to be a certificate
abbrev pub input_of_parts : Bool → List PartText → Result InputValue InputFault
input_of_parts certified parts =
    read_input (λ fault. fault) (part_with_slot_name parts) (check_part_names certified parts)

-- the part with this number, from 0; past the last one a part without a name and a text
abbrev pub part_at : List PartText → ℕ → PartText
part_at parts number = unwrap_or (slice_get parts number) (record { name = []; bytes = [] })

-- the text of the certificate, if there is to be one: that of the part after those of the other slots
abbrev pub certificate_in : Bool → List PartText → TopologyValue → Option (List ℕ)
certificate_in true parts topology = Some (part_at parts (length (slots false topology))).bytes
certificate_in false parts topology = None

-- the input of a bundle, where `certified` says whether it is to have a certificate
unfoldable pub input_of_bundle : Bool → List ℕ → Result InputValue InputFault
input_of_bundle certified text = map_fault Bundle (bundle_of text) >>= input_of_parts certified
