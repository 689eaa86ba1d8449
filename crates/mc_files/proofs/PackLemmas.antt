-- What is packed of files, and when.
use Rattle.std.proofs.Common.{◌≡◌, ℕ, suc, ◌+◌, ◌≤◌, Bool, false, List, []}
use Rattle.std.proofs.Common.{◌∷◌, ◌++◌, codes, length, drop, Some, Result}
use Rattle.std.proofs.Common.{Ok, Err, refl, ap, sym, subst, ◌∙◌, arith}
use Rattle.std.specs.Prelude.{nat_le, slice_get}
use Rattle.std.specs.List.{AllByRecursion}
use Rattle.std.proofs.lemmas.Bool.{false_from_ne_true, leb-true, le-leb}
use Rattle.std.proofs.lemmas.List.{append-nil, append_assoc, drop_all, drop_more}
use Rattle.std.proofs.lemmas.Option.{slice_get_within, get_or_from_slice_get}
use Rattle.mc_text.specs.Steps.{◌>>=◌, Gives}
use Rattle.mc_bundle.specs.Bundle.{PartText, IsPartName, AreWithinLimits, bundle_spelling}
use Rattle.mc_bundle.specs.Bundle.{max_bundle, max_parts}
use Rattle.mc_topology.proofs.Steps.{bind_ok, checked_ok, map_fault_ok, ok_injective}
use Rattle.mc_topology.proofs.TopologyTexts.{parse_topology-denotes, parse_topology-from_denotes}
use Rattle.mc_topology.proofs.Validity.{IsValidTopology-from_denotes}
use Rattle.mc_topology.specs.Reading.{parse_topology}
use Rattle.mc_topology.specs.Denotation.{DenotesBoundedTopology}
use Rattle.mc_topology.specs.Topology.{TopologyValue}
use Rattle.mc_files.specs.Files.{FileText, file_named}
use Rattle.mc_files.specs.Layout.{Slot, file_name, part_name, topology_slot, slots_after_topology, slots}
use Rattle.mc_files.specs.Packing.{ArePacked, IsPacked}
use Rattle.mc_files.proofs.SlotLemmas.{slots_after_topology-at_most_1537, HasPartName-slots}
use Rattle.mc_files.proofs.PartLemmas.{IsWithinMaxPart, IsPartOfFile}
use Rattle.mc_files.proofs.PartLemmas.{IsPartOfFile-from_file_part, file_part-Ok}
use Rattle.mc_files.specs.FilePart.{IsFailedOrMemory, file_part}
use Rattle.mc_files.specs.PackReading.{from_file_fault, part_of_slot, parts_after, parts_before_limits}
use Rattle.mc_files.specs.PackReading.{within_limits, packed_parts, read_topology}
use Rattle.mc_files.specs.PackRun.{IsIoOrMemory}
use Rattle.mc_files.specs.declared.fault.FileFault.{FileFault}
use Rattle.mc_files.specs.declared.fault.FileFault.TheVariants as file
use Rattle.mc_files.specs.declared.fault.PackFault.{PackFault}
use Rattle.mc_files.specs.declared.fault.PackFault.TheVariants.{Topology, TooLarge}

-- ---- one part

-- what is packed of a file is exactly its part
IsPartOfFile-from_part_of_slot : (files : List FileText) (slot : Slot) (part : PartText)
    → part_of_slot files slot ≡ Ok part
    → IsPartOfFile (file_named files (file_name slot)) (part_name slot) part
IsPartOfFile-from_part_of_slot files slot part e =
    IsPartOfFile-from_file_part files slot part
    (map_fault_ok from_file_fault (file_part files slot) part e)

-- and its part is packed
part_of_slot-Ok : (files : List FileText) (slot : Slot) (part : PartText)
    → part.name ≡ part_name slot → file_named files (file_name slot) ≡ Some part.bytes
    → IsWithinMaxPart part → part_of_slot files slot ≡ Ok part
part_of_slot-Ok files slot part named found small =
    rw (file_part-Ok files slot part named found small) refl

-- a file's silent fault is silent as one of packing
IsIoOrMemory-from_file_fault : (fault : FileFault) → IsFailedOrMemory fault
    → IsIoOrMemory (from_file_fault fault)
IsIoOrMemory-from_file_fault file.Failed silent = tt
IsIoOrMemory-from_file_fault file.TooLarge silent = absurd silent
IsIoOrMemory-from_file_fault file.Memory silent = tt

-- a file that makes no part is refused for that
part_of_slot-Err : (files : List FileText) (slot : Slot) (fault : FileFault)
    → ((¬ IsFailedOrMemory fault) → file_part files slot ≡ Err fault)
    → (¬ IsIoOrMemory (from_file_fault fault)) → part_of_slot files slot ≡ Err (from_file_fault fault)
part_of_slot-Err files slot fault given says =
    rw (given (λ silent. says (IsIoOrMemory-from_file_fault fault silent))) refl

-- ---- the parts after it

record ArePartsAfter (files : List FileText) (before : List PartText) (names : List Slot)
    (parts : List PartText) : Type 0 where
  rest : List PartText
  in_order : parts ≡ before ++ rest
  packed : ArePacked files names rest
  sizes : AllByRecursion IsWithinMaxPart rest
  count : length rest ≡ length names

-- what is read after them is packed in the slots' order
ArePartsAfter-from_parts_after : (files : List FileText) (before : List PartText) (names : List Slot)
    (parts : List PartText) → parts_after files before names ≡ Ok parts
    → ArePartsAfter files before names parts
unfolding parts_after
ArePartsAfter-from_parts_after files before [] parts e = record {
  rest = [];
  in_order = sym (append-nil before ∙ ok_injective before parts e);
  packed = tt;
  sizes = tt;
  count = refl;
}
ArePartsAfter-from_parts_after files before (name ∷ names) parts e =
    let one = bind_ok (part_of_slot files name)
    (λ part. parts_after files (before ++ part ∷ []) names) parts e in
    let made = IsPartOfFile-from_part_of_slot files name one.0 one.1 in
    let more = ArePartsAfter-from_parts_after files (before ++ one.0 ∷ []) names parts one.2 in
    record {
      rest = one.0 ∷ more.rest;
      in_order = more.in_order ∙ append_assoc before (one.0 ∷ []) more.rest;
      packed = (made.0, made.1, more.packed);
      sizes = (made.2, more.sizes);
      count = ap suc more.count;
    }

-- and what is packed so is read
parts_after-Ok : (files : List FileText) (before : List PartText) (names : List Slot)
    (rest : List PartText) → ArePacked files names rest → AllByRecursion IsWithinMaxPart rest
    → parts_after files before names ≡ Ok (before ++ rest)
unfolding parts_after
parts_after-Ok files before [] [] packed small = ap Ok (sym (append-nil before))
parts_after-Ok files before [] (part ∷ rest) packed small = absurd packed
parts_after-Ok files before (name ∷ names) [] packed small = absurd packed
parts_after-Ok files before (name ∷ names) (part ∷ rest) packed small =
    rw (part_of_slot-Ok files name part packed.0 packed.1 small.0)
    (parts_after-Ok files (before ++ part ∷ []) names rest packed.2 small.1
    ∙ ap Ok (append_assoc before (part ∷ []) rest))

-- ---- all parts

-- the parts that are read, whatever their size together
record AreReadParts (files : List FileText) (certified : Bool) (parts : List PartText) : Type 0 where
  text : List ℕ
  topology : TopologyValue
  first : file_named files (codes "topology") ≡ Some text
  denotes : DenotesBoundedTopology text topology
  each : ArePacked files (slots certified topology) parts
  sizes : AllByRecursion IsWithinMaxPart parts
  count : length parts ≤ max_parts

-- the text denotes the topology that is parsed
DenotesBoundedTopology-from_read_topology : (text : List ℕ) (t : TopologyValue) → read_topology text ≡ Ok t
    → DenotesBoundedTopology text t
DenotesBoundedTopology-from_read_topology text t e =
    parse_topology-denotes text t (map_fault_ok Topology (parse_topology text) t e)

-- and the topology that it denotes is parsed
read_topology-Ok : (text : List ℕ) (t : TopologyValue) → DenotesBoundedTopology text t
    → read_topology text ≡ Ok t
read_topology-Ok text t denotes = rw (parse_topology-from_denotes text t denotes) refl

-- what is read is packed of the files
AreReadParts-from_Ok : (files : List FileText) (certified : Bool) (parts : List PartText)
    → parts_before_limits certified files ≡ Ok parts → AreReadParts files certified parts
unfolding parts_before_limits
AreReadParts-from_Ok files certified parts e =
    let one = bind_ok (part_of_slot files topology_slot)
    (λ first. read_topology first.bytes
    >>= λ t. parts_after files (first ∷ []) (slots_after_topology certified t))
    parts e in
    let made = IsPartOfFile-from_part_of_slot files topology_slot one.0 one.1 in
    let two = bind_ok (read_topology one.0.bytes)
    (λ t. parts_after files (one.0 ∷ []) (slots_after_topology certified t)) parts one.2 in
    let denotes = DenotesBoundedTopology-from_read_topology one.0.bytes two.0 two.1 in
    let more = ArePartsAfter-from_parts_after files (one.0 ∷ [])
    (slots_after_topology certified two.0) parts two.2 in
    let few = slots_after_topology-at_most_1537 certified two.0
    (IsValidTopology-from_denotes one.0.bytes two.0 denotes.denotes) in
    let all : AreReadParts files certified (one.0 ∷ more.rest) = record {
      text = one.0.bytes;
      topology = two.0;
      first = made.1;
      denotes = denotes;
      each = (made.0, made.1, more.packed);
      sizes = (made.2, more.sizes);
      count = omega (arith, few, more.count);
    } in
    subst (λ (ps : List PartText). AreReadParts files certified ps) (sym more.in_order) all

-- and what is packed of them is read
parts_before_limits-Ok : (files : List FileText) (certified : Bool) (text : List ℕ) (t : TopologyValue)
    (parts : List PartText) → file_named files (codes "topology") ≡ Some text
    → DenotesBoundedTopology text t → ArePacked files (slots certified t) parts
    → AllByRecursion IsWithinMaxPart parts → parts_before_limits certified files ≡ Ok parts
unfolding parts_before_limits
parts_before_limits-Ok files certified text t [] first denotes each small = absurd each
parts_before_limits-Ok files certified text t (part ∷ rest) first denotes each small =
    let same : text ≡ part.bytes = cc in
    let known : read_topology part.bytes ≡ Ok t =
    subst (λ (bytes : List ℕ). read_topology bytes ≡ Ok t) same (read_topology-Ok text t denotes) in
    rw (part_of_slot-Ok files topology_slot part each.0 each.1 small.0, known)
    (parts_after-Ok files (part ∷ []) (slots_after_topology certified t) rest each.2 small.1)

-- ---- the whole

-- parts that were read are those of the bundle, if they are within its limits
pub IsPacked-within_limits : (files : List FileText) (certified : Bool) (parts : List PartText)
    → parts_before_limits certified files ≡ Ok parts → AreWithinLimits parts → IsPacked files certified parts
IsPacked-within_limits files certified parts e limits =
    let all = AreReadParts-from_Ok files certified parts e in
    record {
      text = all.text;
      topology = all.topology;
      first = all.first;
      denotes = all.denotes;
      each = all.each;
      limits = limits;
    }

-- and else they are too large together
pub packed_parts-too_large : (files : List FileText) (certified : Bool) (parts : List PartText)
    → parts_before_limits certified files ≡ Ok parts → ¬ AreWithinLimits parts
    → packed_parts certified files ≡ Err TooLarge
unfolding packed_parts within_limits
packed_parts-too_large files certified parts e beyond =
    let all = AreReadParts-from_Ok files certified parts e in
    let large : nat_le (length (bundle_spelling parts)) max_bundle ≡ false =
    false_from_ne_true _ (λ small. beyond (record {
      sizes = all.sizes;
      count = all.count;
      size = leb-true (length (bundle_spelling parts)) max_bundle small;
    })) in
    rw (e, large) refl

-- what isn't read isn't packed
pub packed_parts-Err : (files : List FileText) (certified : Bool) (fault : PackFault)
    → parts_before_limits certified files ≡ Err fault → packed_parts certified files ≡ Err fault
unfolding packed_parts
packed_parts-Err files certified fault e = rw (e) refl

-- so what is read within the limits is packed
pub IsPacked-from_packed_parts : (files : List FileText) (certified : Bool) (parts : List PartText)
    → packed_parts certified files ≡ Ok parts → IsPacked files certified parts
unfolding packed_parts within_limits
IsPacked-from_packed_parts files certified parts e =
    let one = bind_ok (parts_before_limits certified files) within_limits parts e in
    let (same, small) =
    checked_ok (λ (ps : List PartText). nat_le (length (bundle_spelling ps)) max_bundle) TooLarge one.0 parts
    one.2 in
    let read = one.1 ∙ ap Ok same in
    let all = AreReadParts-from_Ok files certified parts read in
    IsPacked-within_limits files certified parts read (record {
      sizes = all.sizes;
      count = all.count;
      size = leb-true (length (bundle_spelling parts)) max_bundle small;
    })

-- and what is packed is read
pub packed_parts-Ok : (files : List FileText) (certified : Bool) (parts : List PartText)
    → IsPacked files certified parts → packed_parts certified files ≡ Ok parts
unfolding packed_parts within_limits
packed_parts-Ok files certified parts is =
    let read = parts_before_limits-Ok files certified is.text is.topology parts is.first is.denotes is.each
    is.limits.sizes in
    rw (read, le-leb (length (bundle_spelling parts)) max_bundle is.limits.size) refl

-- the files are packed as one list of parts
pub IsPacked-unique : (files : List FileText) (certified : Bool) (ps qs : List PartText)
    → IsPacked files certified ps → IsPacked files certified qs → ps ≡ qs
IsPacked-unique files certified ps qs p q =
    ok_injective ps qs (sym (packed_parts-Ok files certified ps p) ∙ packed_parts-Ok files certified qs q)

-- ---- the names of the parts

-- the parts have the names of their slots
IsPartName-from_ArePacked : (files : List FileText) (slots : List Slot) (parts : List PartText)
    → ArePacked files slots parts → AllByRecursion (λ slot. IsPartName (part_name slot)) slots
    → AllByRecursion (λ part. IsPartName part.name) parts
IsPartName-from_ArePacked files [] [] packed named = tt
IsPartName-from_ArePacked files [] (part ∷ parts) packed named = absurd packed
IsPartName-from_ArePacked files (slot ∷ slots) [] packed named = absurd packed
IsPartName-from_ArePacked files (slot ∷ slots) (part ∷ parts) packed named = (
  subst IsPartName (sym packed.0) named.0,
  IsPartName-from_ArePacked files slots parts packed.2 named.1,
)

-- so each has a part's name
pub IsPartName-from_IsPacked : (files : List FileText) (certified : Bool) (parts : List PartText)
    → IsPacked files certified parts → AllByRecursion (λ part. IsPartName part.name) parts
IsPartName-from_IsPacked files certified parts is =
    IsPartName-from_ArePacked files (slots certified is.topology) parts is.each
    (HasPartName-slots certified is.topology
    (IsValidTopology-from_denotes is.text is.topology is.denotes.denotes))

-- ---- steps over the files of a source

-- a step that is refused ends what comes after it
Gives-bind_Err : {Y Z V : Type 0} (seen : Z → V) (r : Result Z PackFault)
    (fault : PackFault) (step : Result Y PackFault) (next : Y → Result V PackFault)
    → ((¬ IsIoOrMemory fault) → step ≡ Err fault) → r ≡ Err fault
    → Gives IsIoOrMemory seen r (step >>= next)
Gives-bind_Err seen r fault step next given e = rw (e) (λ says. rw (given says) refl)

-- the slots from an index on are the slot there and those after it
pub drop-slice_get : (slots : List Slot) (i : ℕ) (slot : Slot) → slice_get slots i ≡ Some slot
    → drop i slots ≡ slot ∷ drop (i + 1) slots
drop-slice_get slots i slot at =
    drop_more slots i slot (slice_get_within slots i slot at)
    ∙ ap (λ (s : Slot). s ∷ drop (i + 1) slots) (get_or_from_slice_get slots i slot slot at)

-- its part isn't read
pub Gives-part_refused : {X : Type 0} (files : List FileText) (before : List PartText)
    (slots : List Slot) (i : ℕ) (slot : Slot) (whole : Result (List PartText) PackFault)
    (view : X → List PartText) (r : Result X PackFault) (fault : FileFault)
    → slice_get slots i ≡ Some slot → parts_after files before (drop i slots) ≡ whole
    → ((¬ IsFailedOrMemory fault) → file_part files slot ≡ Err fault) → r ≡ Err (from_file_fault fault)
    → Gives IsIoOrMemory view r whole
unfolding parts_after
Gives-part_refused files before slots i slot whole view r fault at left given e =
    let next = ap (parts_after files before) (drop-slice_get slots i slot at) in
    rw (← left, next) (Gives-bind_Err view r (from_file_fault fault) (part_of_slot files slot)
    (λ part. parts_after files (before ++ part ∷ []) (drop (i + 1) slots))
    (part_of_slot-Err files slot fault given) e)

-- it is read, and those after it are
pub parts_after-more : (files : List FileText) (before after : List PartText) (slots : List Slot) (i : ℕ)
    (slot : Slot) (part : PartText) (whole : Result (List PartText) PackFault)
    → slice_get slots i ≡ Some slot → parts_after files before (drop i slots) ≡ whole
    → file_part files slot ≡ Ok part → after ≡ before ++ part ∷ []
    → parts_after files after (drop (i + 1) slots) ≡ whole
unfolding parts_after
parts_after-more files before after slots i slot part whole at left made pushed =
    let next = ap (parts_after files before) (drop-slice_get slots i slot at) in
    rw (← left, next, made, pushed) refl

-- no slot is left
pub parts_after-all : (files : List FileText) (before : List PartText) (slots : List Slot) (i : ℕ)
    (whole : Result (List PartText) PackFault) → length slots ≤ i
    → parts_after files before (drop i slots) ≡ whole → whole ≡ Ok before
unfolding parts_after
parts_after-all files before slots i whole past left =
    sym left ∙ ap (parts_after files before) (drop_all i slots past)

-- the topology's file isn't read
pub Gives-topology_file_refused : {X : Type 0} (files : List FileText) (certified : Bool)
    (view : X → List PartText) (r : Result X PackFault) (fault : FileFault)
    → ((¬ IsFailedOrMemory fault) → file_part files topology_slot ≡ Err fault)
    → r ≡ Err (from_file_fault fault) → Gives IsIoOrMemory view r (parts_before_limits certified files)
unfolding parts_before_limits
Gives-topology_file_refused files certified view r fault given e =
    Gives-bind_Err view r (from_file_fault fault) (part_of_slot files topology_slot)
    (λ first. read_topology first.bytes
    >>= λ t. parts_after files (first ∷ []) (slots_after_topology certified t))
    (part_of_slot-Err files topology_slot fault given) e

-- or its text denotes no topology
pub Gives-topology_refused : {X : Type 0} (files : List FileText) (certified : Bool) (first : PartText)
    (view : X → List PartText) (r : Result X PackFault) (fault : PackFault)
    → file_part files topology_slot ≡ Ok first
    → ((¬ IsIoOrMemory fault) → read_topology first.bytes ≡ Err fault)
    → r ≡ Err fault → Gives IsIoOrMemory view r (parts_before_limits certified files)
unfolding parts_before_limits
Gives-topology_refused files certified first view r fault made given e =
    rw (made) (Gives-bind_Err view r fault (read_topology first.bytes)
    (λ t. parts_after files (first ∷ []) (slots_after_topology certified t)) given e)

-- and else the parts after it decide
pub Gives-other_parts : {X : Type 0} (files : List FileText) (certified : Bool) (first : PartText)
    (t : TopologyValue) (view : X → List PartText) (r : Result X PackFault)
    → file_part files topology_slot ≡ Ok first → read_topology first.bytes ≡ Ok t
    → Gives IsIoOrMemory view r (parts_after files (first ∷ []) (slots_after_topology certified t))
    → Gives IsIoOrMemory view r (parts_before_limits certified files)
unfolding parts_before_limits
Gives-other_parts files certified first t view r made known given = rw (made, known) given
