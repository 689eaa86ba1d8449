-- The result of reading the parts after the current one.
use Rattle.std.specs.Prelude.{◌≡◌, ◌≢◌, ℕ, ◌+◌, Bool, true, false, List, [], ◌∷◌, drop, slice_get, Option}
use Rattle.std.specs.Prelude.{Some, None, IsSome, Result, Ok, Err, IfErr, refl, if◌then◌else◌}
use Rattle.std.specs.Str.{bytes_eq}
use Rattle.std.proofs.Common.{ap, ◌∙◌, sym, subst, inl, inr}
use Rattle.std.proofs.lemmas.Slice.Eq.{bytes_eq-Decides}
use Rattle.mc_bundle.specs.declared.bundle_fault.BundleFault.{BundleFault}
use Rattle.mc_bundle.specs.declared.bundle_fault.BundleFault.TheVariants as bundle
use Rattle.mc_bundle.specs.Bundle.{PartText}
use Rattle.mc_bundle.specs.PartsReading.{PartsState, prepend_parts, parts_from_current, current_part}
use Rattle.mc_bundle.specs.RestOfBundle.{rest_of_bundle}
use Rattle.mc_text.specs.Steps.{◌>>=◌, map_fault}
use Rattle.mc_bundle.proofs.RestOfBundleLemmas.{rest_of_bundle-opened, parts_from_current-prepend}
use Rattle.mc_topology.specs.Topology.{TopologyValue}
use Rattle.mc_files.specs.Layout.{Slot, part_name, slots}
use Rattle.mc_input.specs.InputReading.{named}
use Rattle.mc_input.specs.PartsOneByOne.{read_rest, check_names_then, check_names_from}
use Rattle.mc_input.specs.PartsOneByOne.{HasNameOfSlot, IsFaultOf}
use Rattle.mc_input.specs.SourceFault.{IsReadOrMemory, from_bundle_fault}
use Rattle.mc_input.specs.declared.fault.InputFault.{InputFault}
use Rattle.mc_input.specs.declared.fault.InputFault.TheVariants.{Bundle, Parts}
use Rattle.mc_input.specs.declared.source_fault.SourceFault.{SourceFault}
use Rattle.mc_input.specs.declared.source_fault.SourceFault.TheVariants.{Input}
use Rattle.mc_input.proofs.ReadingLemmas.{drop-slice_get}

-- ---- the framing

-- a fault of the framing is a bundle's, unless it is silent
from_bundle_fault-Bundle : (fault : BundleFault) → ¬ IsReadOrMemory (from_bundle_fault fault)
    → (fault ≢ bundle.Read) × (fault ≢ bundle.Memory) × (from_bundle_fault fault ≡ Input (Bundle fault))
from_bundle_fault-Bundle bundle.Read loud = absurd (loud (inl refl))
from_bundle_fault-Bundle bundle.Memory loud = absurd (loud (inr refl))
from_bundle_fault-Bundle fault loud = (λ e. absurd cc, λ e. absurd cc, refl)

module _ {X : Type 0} (s : PartsState) (text : List ℕ) (read : List PartText → Result X InputFault)
  where
    -- what is wrong with the framing comes before whatever is read
    read_rest-framing_fault : (fault : BundleFault) → rest_of_bundle s text ≡ Err fault
        → read_rest s text read ≡ Err (Bundle fault)
    read_rest-framing_fault fault e = rw e refl

    -- the rest of the bundle is refused for its framing
    pub read_rest-framing_refused : (fault : BundleFault) (own : SourceFault) → own ≡ from_bundle_fault fault
        → (fault ≢ bundle.Read → fault ≢ bundle.Memory → rest_of_bundle s text ≡ Err fault)
        → ¬ IsReadOrMemory own → map_fault Input (read_rest s text read) ≡ Err own
    read_rest-framing_refused fault own is e loud =
        let known = from_bundle_fault-Bundle fault (subst (λ f. ¬ IsReadOrMemory f) is loud) in
        ap (map_fault Input) (read_rest-framing_fault fault (e known.0 known.1))
        ∙ ap Err (sym known.2 ∙ sym is)

    -- or there is none
    pub read_rest-none : rest_of_bundle s text ≡ Ok [] → read_rest s text read ≡ read []
    read_rest-none e = rw e refl

-- two readings with the same result for all parts have the same result for the rest
bind-same : {X : Type 0} (r : Result (List PartText) InputFault) (a b : List PartText → Result X InputFault)
    → ((parts : List PartText) → a parts ≡ b parts) → (r >>= a) ≡ (r >>= b)
bind-same (Ok parts) a b each = each parts
bind-same (Err fault) a b each = refl

-- so two such readings of the rest of a bundle agree
pub read_rest-same : {X : Type 0} (s : PartsState) (text : List ℕ)
    (a b : List PartText → Result X InputFault) → ((parts : List PartText) → a parts ≡ b parts)
    → read_rest s text a ≡ read_rest s text b
read_rest-same s text a b each = bind-same (map_fault Bundle (rest_of_bundle s text)) a b each

-- a reading that is refused as another one for all parts
bind-both_Err : {X Y : Type 0} (r : Result (List PartText) InputFault)
    (a : List PartText → Result X InputFault) (b : List PartText → Result Y InputFault)
    (fault : InputFault) → ((parts : List PartText) → a parts ≡ Err fault → b parts ≡ Err fault)
    → (r >>= a) ≡ Err fault → (r >>= b) ≡ Err fault
bind-both_Err (Ok parts) a b fault each e = each parts e
bind-both_Err (Err other) a b fault each e = cc

-- a fault of the input is one that was converted
pub Err-from_map_fault : {X : Type 0} (r : Result X InputFault) (own : SourceFault)
    → map_fault Input r ≡ Err own
    → (fault : InputFault) × (r ≡ Err fault) × (own ≡ Input fault)
Err-from_map_fault (Ok x) own e = absurd cc
Err-from_map_fault (Err fault) own e = (fault, refl, cc)

-- so the rest of a bundle is refused for both
pub read_rest-both_Err : {X Y : Type 0} (s : PartsState) (text : List ℕ)
    (a : List PartText → Result X InputFault) (b : List PartText → Result Y InputFault)
    (own : SourceFault)
    → ((parts : List PartText) (fault : InputFault) → a parts ≡ Err fault → b parts ≡ Err fault)
    → map_fault Input (read_rest s text a) ≡ Err own → map_fault Input (read_rest s text b) ≡ Err own
read_rest-both_Err s text a b own each e =
    let found = Err-from_map_fault (read_rest s text a) own e in
    ap (map_fault Input) (bind-both_Err (map_fault Bundle (rest_of_bundle s text)) a b found.0
    (λ parts refused. each parts found.0 refused) found.1) ∙ ap Err (sym found.2)

-- ---- a part is read

module _ {X : Type 0} where
  -- what is read of the rest with a part in front is read of the rest, with the part put in front there
  before-bind_one : (part : PartText) (r : Result (List PartText) BundleFault)
      (read : List PartText → Result X InputFault)
      → (map_fault Bundle (prepend_parts (part ∷ []) r) >>= read)
      ≡ (map_fault Bundle r >>= λ parts. read (part ∷ parts))
  before-bind_one part (Ok parts) read = refl
  before-bind_one part (Err fault) read = refl

  -- it is the first of the rest, and the others follow it
  pub read_rest-part_passed : (s new : PartsState) (text later : List ℕ) (part : PartText)
      (read : List PartText → Result X InputFault)
      → rest_of_bundle s text ≡ prepend_parts (part ∷ []) (rest_of_bundle new later)
      → read_rest s text read ≡ read_rest new later (λ parts. read (part ∷ parts))
  read_rest-part_passed s new text later part read e =
      ap (λ r. map_fault Bundle r >>= read) e ∙ before-bind_one part (rest_of_bundle new later) read

  -- a part that has the name of its slot
  pub check_names_then-part_passed : (certified : Bool) (t : TopologyValue) (n : ℕ) (part : PartText)
      (read : List PartText → Result X InputFault) (parts : List PartText)
      → HasNameOfSlot certified t n part.name
      → check_names_then certified t n read (part ∷ parts)
      ≡ check_names_then certified t (n + 1) (λ others. read (part ∷ others)) parts
  check_names_then-part_passed certified t n part read parts at =
      let from = drop-slice_get (slots certified t) n at.0 at.1 in
      let name = (bytes_eq-Decides part.name (part_name at.0)).1 at.2 in
      rw (from, name) refl

  -- so a part that has its slot's name leaves the check to the parts after it
  pub read_rest-checked_part_passed : (certified : Bool) (t : TopologyValue) (n : ℕ) (s new : PartsState)
      (text later : List ℕ) (part : PartText) (read : List PartText → Result X InputFault)
      → rest_of_bundle s text ≡ prepend_parts (part ∷ []) (rest_of_bundle new later)
      → HasNameOfSlot certified t n part.name → read_rest s text (check_names_then certified t n read)
      ≡ read_rest new later (check_names_then certified t (n + 1) (λ parts. read (part ∷ parts)))
  read_rest-checked_part_passed certified t n s new text later part read e at =
      read_rest-part_passed s new text later part (check_names_then certified t n read) e
      ∙ read_rest-same new later (λ parts. check_names_then certified t n read (part ∷ parts))
      (check_names_then certified t (n + 1) (λ parts. read (part ∷ parts)))
      (λ parts. check_names_then-part_passed certified t n part read parts at)

-- ---- to the end

-- parts in front make no difference to a reading that ignores them
prepend_parts-bind_ignored : (xs : List PartText) (r : Result (List PartText) BundleFault)
    → (map_fault Bundle (prepend_parts xs r) >>= λ _. Ok tt)
    ≡ (map_fault Bundle r >>= λ _. (let u : Result (Unit {0}) InputFault = Ok tt in u))
prepend_parts-bind_ignored xs (Ok parts) = refl
prepend_parts-bind_ignored xs (Err fault) = refl

-- the rest before a part has the same fault of framing as the rest after it
pub framing-part_passed : (s new : PartsState) (done text later : List ℕ)
    → parts_from_current s done text
    ≡ prepend_parts (current_part s done text) (parts_from_current new [] later)
    → read_rest s text (λ _. Ok tt)
    ≡ read_rest new later (λ _. (let u : Result (Unit {0}) InputFault = Ok tt in u))
framing-part_passed s new done text later e =
    ap (λ r. map_fault Bundle r >>= λ _. (let u : Result (Unit {0}) InputFault = Ok tt in u))
    (rest_of_bundle-opened s done text (parts_from_current new [] later) e
    ∙ parts_from_current-prepend new [] later)
    ∙ prepend_parts-bind_ignored (current_part new [] later) (rest_of_bundle new later)

-- the framing of the rest is right, or wrong
abbrev framing : PartsState → List ℕ → Result (Unit {0}) InputFault
framing s text = read_rest s text (λ _. Ok tt)

-- where it is right, there are parts
pub framing-Ok : (s : PartsState) (text : List ℕ) (u : Unit {0})
    → map_fault Input (framing s text) ≡ Ok u
    → (parts : List PartText) × (rest_of_bundle s text ≡ Ok parts)
framing-Ok s text u e = by (rest_of_bundle s text) e
  where
    by : (r : Result (List PartText) BundleFault)
        → map_fault Input (map_fault Bundle r >>= λ _. (let v : Result (Unit {0}) InputFault = Ok tt in v))
        ≡ Ok u → (parts : List PartText) × (r ≡ Ok parts)
    by (Ok parts) e = (parts, refl)
    by (Err fault) e = absurd cc

-- where it is wrong, each reading of the rest is refused for it
pub read_rest-framing_Err : {X : Type 0} (s new : PartsState) (text later : List ℕ) (xs : List PartText)
    (read : List PartText → Result X InputFault) (own : SourceFault)
    → rest_of_bundle s text ≡ prepend_parts xs (rest_of_bundle new later)
    → map_fault Input (framing new later) ≡ Err own
    → map_fault Input (read_rest s text read) ≡ Err own
read_rest-framing_Err s new text later xs read own e wrong =
    ap (λ r. map_fault Input (map_fault Bundle r >>= read)) e ∙ by (rest_of_bundle new later) wrong
  where
    by : (r : Result (List PartText) BundleFault)
        → map_fault Input (map_fault Bundle r >>= λ _. (let v : Result (Unit {0}) InputFault = Ok tt in v))
        ≡ Err own → map_fault Input (map_fault Bundle (prepend_parts xs r) >>= read) ≡ Err own
    by (Ok parts) e = absurd cc
    by (Err fault) e = cc

-- where it is right, the result for the first part decides
pub read_rest-first_part_Err : {X : Type 0} (s new : PartsState) (text later : List ℕ) (part : PartText)
    (parts : List PartText) (read : List PartText → Result X InputFault) (fault : InputFault)
    → rest_of_bundle s text ≡ prepend_parts (part ∷ []) (rest_of_bundle new later)
    → rest_of_bundle new later ≡ Ok parts
    → read (part ∷ parts) ≡ Err fault → read_rest s text read ≡ Err fault
read_rest-first_part_Err s new text later part parts read fault e right refused =
    read_rest-part_passed s new text later part read e ∙ rw right refused

-- ---- the names from a slot on

-- a first part that is refused for its name is so among the slots
pub check_names_from-Err : (n : ℕ) (slot : Slot) (others : List Slot) (parts : List PartText)
    (fault : InputFault) → named (slice_get parts 0) (part_name slot) n ≡ Err fault
    → check_names_from n (slot ∷ others) parts ≡ Err fault
check_names_from-Err n slot others [] fault e = cc
check_names_from-Err n slot others (part ∷ parts) fault e = by (bytes_eq part.name (part_name slot)) e
  where
    by : (b : Bool) → (if b then Ok part else Err (Parts (n + 1))) ≡ Err fault
        → (if b then check_names_from (n + 1) others parts else Err (Parts (n + 1))) ≡ Err fault
    by true e = absurd cc
    by false e = cc

-- and so it is of the rest of a bundle
pub IsFaultOf-check_names_from : (ss : List Slot) (s : PartsState) (n : ℕ) (slot : Slot)
    (r : Result (Unit {0}) SourceFault) → slice_get ss n ≡ Some slot
    → IfErr r (IsFaultOf s (λ parts. named (slice_get parts 0) (part_name slot) n))
    → IfErr r (IsFaultOf s (check_names_from n (drop n ss)))
IsFaultOf-check_names_from ss s n slot (Ok u) at refused = tt
IsFaultOf-check_names_from ss s n slot (Err own) at refused = λ text known loud.
    read_rest-both_Err s text (λ parts. named (slice_get parts 0) (part_name slot) n)
    (check_names_from n (drop n ss)) own
    (λ parts fault e. rw (drop-slice_get ss n slot at)
    (check_names_from-Err n slot (drop (n + 1) ss) parts fault e))
    (refused text known loud)

-- ---- the names alone

-- a part that has its slot's name leaves the check to the parts after it,
check_names_from-part_passed : (certified : Bool) (t : TopologyValue) (n : ℕ) (part : PartText)
    (parts : List PartText) → HasNameOfSlot certified t n part.name
    → check_names_from n (drop n (slots certified t)) (part ∷ parts)
    ≡ check_names_from (n + 1) (drop (n + 1) (slots certified t)) parts
check_names_from-part_passed certified t n part parts at =
    let from = drop-slice_get (slots certified t) n at.0 at.1 in
    let name = (bytes_eq-Decides part.name (part_name at.0)).1 at.2 in
    rw (from, name) refl

-- and so it does in the rest of a bundle
pub read_rest-name_passed : (certified : Bool) (t : TopologyValue) (n : ℕ) (s new : PartsState)
    (text later : List ℕ) (part : PartText)
    → rest_of_bundle s text ≡ prepend_parts (part ∷ []) (rest_of_bundle new later)
    → HasNameOfSlot certified t n part.name
    → read_rest s text (check_names_from n (drop n (slots certified t)))
    ≡ read_rest new later (check_names_from (n + 1) (drop (n + 1) (slots certified t)))
read_rest-name_passed certified t n s new text later part e at =
    read_rest-part_passed s new text later part (check_names_from n (drop n (slots certified t))) e
    ∙ read_rest-same new later (λ parts. check_names_from n (drop n (slots certified t)) (part ∷ parts))
    (check_names_from (n + 1) (drop (n + 1) (slots certified t)))
    (λ parts. check_names_from-part_passed certified t n part parts at)

-- where the names are refused, so is a reading that checks them first
pub read_rest-names_Err : {X : Type 0} (s : PartsState) (text : List ℕ)
    (names : List PartText → Result (Unit {0}) InputFault) (read : List PartText → Result X InputFault)
    (own : SourceFault) → map_fault Input (read_rest s text names) ≡ Err own
    → map_fault Input (read_rest s text (λ parts. names parts >>= λ _. read parts)) ≡ Err own
read_rest-names_Err s text names read own e =
    read_rest-both_Err s text names (λ parts. names parts >>= λ _. read parts) own
    (λ parts fault refused. rw refused refl) e

-- a name that is there is one
pub Some-from_IsSome_name : (s : PartsState) → IsSome s.name → (name : List ℕ) × (s.name ≡ Some name)
Some-from_IsSome_name s there = by s.name there
  where
    by : (o : Option (List ℕ)) → IsSome o → (name : List ℕ) × (o ≡ Some name)
    by None there = absurd cc
    by (Some name) there = (name, refl)
