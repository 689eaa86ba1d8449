-- A bundle that is read part by part: the parts after the current one, and what each call reads of
-- it.
use Rattle.std.specs.Prelude.{◌≡◌, ◌≤◌, ℕ, List, length, [], ◌∷◌, ◌++◌, Option, Some, None, Result, Ok, Err}
use Rattle.mc_bundle.specs.declared.bundle_fault.BundleFault.{BundleFault}
use Rattle.mc_bundle.specs.declared.bundle_fault.BundleFault.TheVariants as faults
use Rattle.mc_bundle.specs.declared.stage.Stage.{Stage}
use Rattle.mc_bundle.specs.declared.stage.Stage.TheVariants as stages
use Rattle.mc_text.specs.Steps.{◌>>=◌}
use Rattle.mc_bundle.specs.Bundle.{PartText}
use Rattle.mc_bundle.specs.BundleReading.{part_bytes_at, parts_from, bundle_of}
use Rattle.mc_text.specs.Lines.{max_text}
use Rattle.mc_bundle.specs.PartsReading.{PartsState, prepend_parts, parts_from_current, current_part}
use Rattle.mc_bundle.specs.PartsLimits.{ConsumesWithin, max_to_come}

-- What was left of the current part was skipped: the parts that were to come are that part, and
-- those that are to come now.
abbrev pub SkipsCurrentPart : PartsState → PartsState → (done text : List ℕ) → Type 0
SkipsCurrentPart old new done text =
    (later : List ℕ) × (new.remaining ≡ Some later)
    × (parts_from_current old done text
    ≡ prepend_parts (current_part old done text) (parts_from_current new [] later))

-- These bytes of the current part were read: with them counted as read, the parts that are to come
-- are the same as before.
abbrev pub ReadsOfPart : PartsState → PartsState → (done text bytes : List ℕ) → Type 0
ReadsOfPart old new done text bytes =
    (later : List ℕ) × (new.remaining ≡ Some later)
    × (parts_from_current old done text ≡ parts_from_current new (done ++ bytes) later)

-- These bytes of the current part were read, and are the next ones of the text: with them counted
-- as read, the parts that are to come are the same as before.
abbrev pub ReadsNextOfPart : PartsState → PartsState → (done text bytes : List ℕ) → Type 0
ReadsNextOfPart old new done text bytes =
    (later : List ℕ) × (new.remaining ≡ Some later) × (text ≡ bytes ++ later)
    × (parts_from_current old done text ≡ parts_from_current new (done ++ bytes) later)

-- the parts after the current one, if there is one
abbrev pub rest_after_part : Option (List ℕ) → PartsState → List ℕ → Result (List PartText) BundleFault
rest_after_part None state text = Err faults.Failed
rest_after_part (Some name) state text =
    part_bytes_at state.left text >>= λ found. parts_from state.parts state.room found.1

-- the parts after the current one, at a stage
abbrev pub rest_at_stage : Stage → PartsState → List ℕ → Result (List PartText) BundleFault
rest_at_stage stages.Start state text = bundle_of text
rest_at_stage stages.Part state text = rest_after_part state.name state text
rest_at_stage stages.End state text = Ok []
rest_at_stage stages.Failed state text = Err faults.Failed

-- the parts after the current one, if this text comes; at the start all parts of the bundle
abbrev pub rest_of_bundle : PartsState → List ℕ → Result (List PartText) BundleFault
rest_of_bundle state text = rest_at_stage state.stage state text

-- A part that satisfies `Holds` was read: the parts that were to come are that part, and those that
-- are to come now.
abbrev pub ReadsPart : PartsState → PartsState → (PartText → Type 0) → Type 0
ReadsPart old new Holds =
    (text : List ℕ) → old.remaining ≡ Some text →
    (later : List ℕ) × (part : PartText) × (new.remaining ≡ Some later)
    × (rest_of_bundle old text ≡ prepend_parts (part ∷ []) (rest_of_bundle new later)) × Holds part

-- reading went on over the same input, and took no more bytes than might come
abbrev pub Advances : PartsState → PartsState → Type 0
Advances old new =
    (new.borrows ≡ old.borrows)
    × ConsumesWithin (max_to_come old) (max_to_come new) old.remaining new.remaining

-- The current part, whose text is still to be read, was fed to a reader as a whole. `before` and `after` give
-- the reader's result for bytes that are still fed, before that and after it.
abbrev pub HasFedPart : {R : Type 0} → (old new : PartsState) → (text : List ℕ)
    → (before after : List ℕ → R) → Type 0
HasFedPart old new text before after =
    (later : List ℕ) × (part : PartText) × (new.remaining ≡ Some later)
    × (parts_from_current old [] text ≡ prepend_parts (part ∷ []) (rest_of_bundle new later))
    × (old.name ≡ Some part.name) × (length part.bytes ≤ max_text)
    × (before part.bytes ≡ after [])
