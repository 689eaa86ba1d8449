-- A bundle that is read part by part from an input: what its remaining bytes are read as.
use Rattle.std.specs.Prelude.{◌≡◌, ℕ, ◌-◌, ◌≤◌, ◌==◌, nat_lt, Bool, true, false, List, [], ◌∷◌}
use Rattle.std.specs.Prelude.{◌++◌, length, take, drop, codes}
use Rattle.std.specs.Prelude.{IsSome, Option, Some, None, Result, Ok, Err, if◌then◌else◌}
use Rattle.std.specs.Borrow.{GName}
use Rattle.std.specs.Str.{bytes_eq}
use Rattle.mc_bundle.specs.declared.bundle_fault.BundleFault.{BundleFault}
use Rattle.mc_bundle.specs.declared.bundle_fault.BundleFault.TheVariants as faults
use Rattle.mc_bundle.specs.declared.stage.Stage.{Stage}
use Rattle.mc_bundle.specs.declared.stage.Stage.TheVariants as stages
use Rattle.mc_bundle.specs.declared.stage.OpenPart.{OpenPart}
use Rattle.mc_text.specs.Steps.{◌>>=◌}
use Rattle.mc_bundle.specs.Bundle.{PartText, max_part, max_parts, max_bundle}
use Rattle.mc_bundle.specs.BundleReading.{line_at, parse_part_line, part_bytes_at, is_too_large}
use Rattle.mc_bundle.specs.BundleReading.{BundlePlace, part_room, parts_from, bundle_of}

-- whether the fault is that a read failed
abbrev pub is_read : BundleFault → Bool
is_read faults.Read = true
is_read fault = false

-- The function's result, with `view` applied to its value, and the bytes that are left after it are
-- what `read` gives of the bytes before it. Nothing is claimed if a read failed, or if the input's
-- bytes are unknown.
abbrev pub ReadsAs : {X Y : Type 0} → (X → Y) → Option (List ℕ) → Option (List ℕ)
    → Result X BundleFault → (List ℕ → Result (Y × List ℕ) BundleFault) → Type 0
ReadsAs view None new answer read = Unit {0}
ReadsAs view (Some text) new (Err faults.Read) read = Unit {0}
ReadsAs view (Some text) new (Err fault) read = read text ≡ Err fault
ReadsAs view (Some text) None (Ok x) read = ⊥
ReadsAs view (Some text) (Some later) (Ok x) read = read text ≡ Ok (view x, later)

-- the bytes after a bundle's first line, with which the text has to begin
abbrev pub magic_of : List ℕ → Result (Unit {0} × List ℕ) BundleFault
magic_of text =
    if bytes_eq (take 17 text) (codes "mcaudit bundle 1\n") then Ok (tt, drop 17 text)
    else Err faults.NoMagic

-- the bytes after what is left of a part, which is `left` bytes and a line feed
abbrev pub rest_of_part : ℕ → List ℕ → Result (Unit {0} × List ℕ) BundleFault
rest_of_part left text = part_bytes_at left text >>= λ found. Ok (tt, found.1)

-- the part that a line with this name and length opens, where at most `parts` parts of at most
-- `room` bytes in all may come
abbrev pub opened_part : (parts room : ℕ) → (line : List ℕ) → Option (List ℕ × ℕ)
    → Result OpenPart BundleFault
opened_part parts room line None = Err faults.BadPartLine
opened_part parts room line (Some header) =
    if is_too_large (record { parts = parts; room = room; rest = [] }) line header.1
    then Err faults.TooLarge
    else Ok (record {
      name = header.0;
      size = header.1;
      parts = parts - 1;
      room = room - part_room line header.1;
    })

-- what the line `end` opens, before the bytes `after`: nothing. Its four bytes have to fit into the
-- room that the bundle has left, and no byte may follow
abbrev pub opened_end : (room : ℕ) → (after : List ℕ) → Result (Option OpenPart × List ℕ) BundleFault
opened_end room after =
    if nat_lt room 4 then Err faults.TooLarge
    else if length after == 0 then Ok (None, after)
    else Err faults.AfterEnd

-- what a line opens, a part or nothing, and the bytes after the line, where `cut` is the line and
-- these bytes, and at most `parts` parts of at most `room` bytes in all may come
abbrev pub opened_by_line : (parts room : ℕ) → (cut : List ℕ × List ℕ)
    → Result (Option OpenPart × List ℕ) BundleFault
opened_by_line parts room cut =
    if bytes_eq cut.0 (codes "end") then opened_end room cut.1
    else (opened_part parts room cut.0 (parse_part_line cut.0) >>= λ part. Ok (Some part, cut.1))

-- what the line at the text's front opens, and the bytes after the line
abbrev pub opened_at : (parts room : ℕ) → (text : List ℕ) → Result (Option OpenPart × List ℕ) BundleFault
opened_at parts room text = line_at text >>= opened_by_line parts room

-- the bytes after what comes before the next part's line: at the start the first line, and else
-- what is left of a part
abbrev pub skipped_before_next : (start : Bool) → (left : ℕ) → (text : List ℕ)
    → Result (Unit {0} × List ℕ) BundleFault
skipped_before_next start left text = if start then magic_of text else rest_of_part left text

-- what the next part's line opens, and the bytes after the line
abbrev pub opened_next : (start : Bool) → (left parts room : ℕ) → (text : List ℕ)
    → Result (Option OpenPart × List ℕ) BundleFault
opened_next start left parts room text =
    skipped_before_next start left text >>= λ found. opened_at parts room found.1

-- ---- the parts that are still to come

-- The state of reading: the stage (at the start, in a part, past the end or after a fault), how
-- many parts and bytes may still come, the current part's name and size, how many of its bytes are
-- left, and the input: the bytes that it still gives, how many of its calls failed, and what it
-- borrows.
pub record PartsState : Type 0 where
  pub stage : Stage
  pub parts : ℕ
  pub room : ℕ
  pub name : Option (List ℕ)
  pub size : ℕ
  pub left : ℕ
  pub remaining : Option (List ℕ)
  pub failed : ℕ
  pub borrows : List GName

-- the state with these fields, in their order
abbrev pub parts_state : Stage → ℕ → ℕ → Option (List ℕ) → ℕ → ℕ → Option (List ℕ) → ℕ → List GName
    → PartsState
parts_state stage parts room name size left remaining failed borrows = record {
  stage = stage;
  parts = parts;
  room = room;
  name = name;
  size = size;
  left = left;
  remaining = remaining;
  failed = failed;
  borrows = borrows;
}

-- a part with this name is open, and none of its bytes is read yet
pub record IsOpened (state : PartsState) (name : List ℕ) : Type 0 where
  pub stage : state.stage ≡ stages.Part
  pub named : state.name ≡ Some name
  pub left : state.left ≡ state.size
  pub size : state.size ≤ max_part

-- the part of this name and the parts after it, where its bytes `done` were read before, and the
-- bytes at the place begin with the `left` bytes that are left of it
abbrev pub part_and_rest : (name done : List ℕ) → (left : ℕ) → BundlePlace
    → Result (List PartText) BundleFault
part_and_rest name done left place =
    part_bytes_at left place.rest >>= λ found.
    parts_from place.parts place.room found.1 >>= λ others.
    let part : PartText = record { name = name; bytes = done ++ found.0 } in
    Ok (part ∷ others)

-- the place within the current part, where this text comes
abbrev pub place_within : PartsState → (text : List ℕ) → BundlePlace
place_within state text = record { parts = state.parts; room = state.room; rest = text }

-- the current part, if it has a name, and the parts after it
abbrev pub current_and_rest : (name : Option (List ℕ)) → PartsState → (done text : List ℕ)
    → Result (List PartText) BundleFault
current_and_rest None state done text = Err faults.Failed
current_and_rest (Some name) state done text =
    part_and_rest name done state.left (place_within state text)

-- the parts from the current one on, at a stage
abbrev pub parts_at_stage : Stage → PartsState → (done text : List ℕ)
    → Result (List PartText) BundleFault
parts_at_stage stages.Start state done text = bundle_of text
parts_at_stage stages.Part state done text = current_and_rest state.name state done text
parts_at_stage stages.End state done text = Ok []
parts_at_stage stages.Failed state done text = Err faults.Failed

-- The parts from the current one on, if this text comes and the bytes `done` of the current part were
-- read before it: at the start all parts of the bundle, and past the end none.
abbrev pub parts_from_current : PartsState → (done text : List ℕ) → Result (List PartText) BundleFault
parts_from_current state done text = parts_at_stage state.stage state done text

-- the part of this name and these bytes, if there is a name
abbrev pub part_if_named : Option (List ℕ) → List ℕ → List PartText
part_if_named None bytes = []
part_if_named (Some name) bytes = record { name = name; bytes = bytes } ∷ []

-- the current part at a stage, as a list: none but in a part
abbrev pub current_part_at_stage : Stage → PartsState → (done text : List ℕ) → List PartText
current_part_at_stage stages.Part state done text = part_if_named state.name (done ++ take state.left text)
current_part_at_stage stage state done text = []

-- the current part as a list, if there is one: its bytes `done`, and those that are left of it in
-- the text
abbrev pub current_part : PartsState → (done text : List ℕ) → List PartText
current_part state done text = current_part_at_stage state.stage state done text

-- these parts, and then those that were read
abbrev pub prepend_parts : List PartText → Result (List PartText) BundleFault
    → Result (List PartText) BundleFault
prepend_parts parts read = read >>= λ others. Ok (parts ++ others)

-- the rules of every state of reading
pub record IsValidPartsState (state : PartsState) : Type 0 where
  pub start : state.stage ≡ stages.Start
      → (state.parts ≡ max_parts) × (state.room ≡ max_bundle - 17)
  pub named : state.stage ≡ stages.Part → IsSome state.name
  pub left : state.left ≤ state.size
  pub size : state.size ≤ max_part

-- the parts from a line on that opened a part, or nothing at the line `end`
abbrev pub parts_of_opened : Option OpenPart → List ℕ → Result (List PartText) BundleFault
parts_of_opened None later = Ok []
parts_of_opened (Some part) later =
    part_and_rest part.name [] part.size
    (record { parts = part.parts; room = part.room; rest = later })
