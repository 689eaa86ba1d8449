-- The result of reading a bundle's parts one by one, in the order of the slots (docs/FORMATS.md, "The parts
-- of a domain"): the name of each is checked, and then its text is read.
use Rattle.std.specs.Prelude.{◌≡◌, ℕ, ◌+◌, Bool, List, [], ◌∷◌, drop, length}
use Rattle.std.specs.Prelude.{slice_get, Option, Some, Result, Ok, Err, if◌then◌else◌}
use Rattle.std.specs.Str.{bytes_eq}
use Rattle.mc_bundle.specs.Bundle.{PartText}
use Rattle.mc_bundle.specs.PartsReading.{PartsState}
use Rattle.mc_bundle.specs.RestOfBundle.{rest_of_bundle}
use Rattle.mc_text.specs.Steps.{◌>>=◌, map_fault}
use Rattle.mc_topology.specs.Topology.{TopologyValue}
use Rattle.mc_files.specs.Layout.{Slot, part_name, slots, topology_slot}
use Rattle.mc_files.specs.Layout.{first_lan_number}
use Rattle.mc_forward.specs.Domains.{DomainValue}
use Rattle.mc_input.specs.Input.{InputValue}
use Rattle.mc_input.specs.InputReading.{certificate_in, input_of_parts, named}
use Rattle.mc_input.specs.Kept.{IsDomainOf}
use Rattle.mc_input.specs.PartsReading.{topology_of}
use Rattle.mc_input.specs.SourceFault.{IsReadOrMemory}
use Rattle.mc_input.specs.declared.fault.InputFault.{InputFault}
use Rattle.mc_input.specs.declared.fault.InputFault.TheVariants.{Bundle, Parts, Memory}
use Rattle.mc_input.specs.declared.source_fault.SourceFault.{SourceFault}
use Rattle.mc_input.specs.declared.source_fault.SourceFault.TheVariants.{Input}

-- ---- the parts from one slot on

-- the check that the parts have the names of these slots, of which the first has this number, and that there
-- are as many
abbrev pub check_names_from : ℕ → List Slot → List PartText → Result (Unit {0}) InputFault
check_names_from number [] [] = Ok tt
check_names_from number [] (part ∷ parts) = Err (Parts (number + 1))
check_names_from number (slot ∷ others) [] = Err (Parts (number + 1))
check_names_from number (slot ∷ others) (part ∷ parts) =
    if bytes_eq part.name (part_name slot) then check_names_from (number + 1) others parts
    else Err (Parts (number + 1))

-- the result of reading the parts from the slot with this number on, after their names are checked
abbrev pub check_names_then : {X : Type 0} → Bool → TopologyValue → ℕ → (List PartText → Result X InputFault)
    → List PartText → Result X InputFault
check_names_then certified topology number read parts =
    check_names_from number (drop number (slots certified topology)) parts >>= λ _. read parts

-- ---- all parts

-- an input, and the text of the certificate, if there is one
abbrev pub InputAndCertificate : Type 0
InputAndCertificate = InputValue × Option (List ℕ)

-- the number of the certificate's slot, which comes after those of the LANs
abbrev pub certificate_number : TopologyValue → ℕ
certificate_number topology = first_lan_number topology + length topology.lans

-- the topology, from the first part
abbrev pub read_first_topology : List PartText → Result TopologyValue InputFault
read_first_topology parts = named (slice_get parts 0) (part_name topology_slot) 0 >>= topology_of

-- the input and the certificate, from all parts
abbrev pub read_all_parts : (certified : Bool) → List PartText → Result InputAndCertificate InputFault
read_all_parts certified parts =
    input_of_parts certified parts >>= λ input. Ok (input, certificate_in certified parts input.topology)

-- ---- from a state of the reading on

-- the result of reading the parts after the current one, where this text of the bundle is still to be read
abbrev pub read_rest : {X : Type 0} → PartsState → List ℕ → (List PartText → Result X InputFault)
    → Result X InputFault
read_rest state text read = map_fault Bundle (rest_of_bundle state text) >>= read

-- The rest of the bundle is refused with this fault, unless the input failed or memory ran out.
abbrev pub IsFaultOf : {X : Type 0} → PartsState → (List PartText → Result X InputFault)
    → SourceFault → Type 0
IsFaultOf state read fault =
    (text : List ℕ) → state.remaining ≡ Some text → ¬ IsReadOrMemory fault →
    map_fault Input (read_rest state text read) ≡ Err fault

-- The name is that of the slot with number n.
abbrev pub HasNameOfSlot : (certified : Bool) → TopologyValue → ℕ → List ℕ → Type 0
HasNameOfSlot certified topology number name =
    (slot : Slot) × (slice_get (slots certified topology) number ≡ Some slot) × (name ≡ part_name slot)

-- The result is what is kept of the part's value, or the part's fault. If memory ran out, nothing is known of
-- the part.
abbrev pub IsPartResult : {X Y : Type 0} → (X → Y → Type 0) → Result X InputFault
    → Result Y InputFault → Type 0
IsPartResult Keeps (Ok kept) (Ok whole) = Keeps kept whole
IsPartResult Keeps (Ok kept) (Err fault) = ⊥
IsPartResult Keeps (Err Memory) read = Unit {0}
IsPartResult Keeps (Err fault) read = read ≡ Err fault

-- All parts were read: the domain consists of what is kept of the input, and the certificate has this text.
abbrev pub ReadsDomain : PartsState → List ℕ → (certified : Bool) → DomainValue → Option (List ℕ)
    → Type 0
ReadsDomain state text certified domain certificate =
    (input : InputValue) × IsDomainOf domain input
    × (read_rest state text (read_all_parts certified) ≡ Ok (input, certificate))
