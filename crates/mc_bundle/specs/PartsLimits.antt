-- How many bytes are read at most, where a bundle is read part by part.
use Rattle.std.specs.Prelude.{ℕ, ◌+◌, ◌≤◌, Bool, List, length, Option, Some, None, Result, Ok, Err}
use Rattle.std.specs.Prelude.{if◌then◌else◌}
use Rattle.std.specs.Io.KnownBytes.{Consumes}
use Rattle.mc_bundle.specs.declared.bundle_fault.BundleFault.{BundleFault}
use Rattle.mc_bundle.specs.declared.stage.Stage.{Stage}
use Rattle.mc_bundle.specs.declared.stage.Stage.TheVariants as stages
use Rattle.mc_bundle.specs.declared.stage.OpenPart.{OpenPart}
use Rattle.mc_bundle.specs.Bundle.{max_line}
use Rattle.mc_bundle.specs.PartsReading.{PartsState}

-- at most `most` less `after` bytes were read
abbrev pub ConsumesWithin : (most after : ℕ) → (remaining left : Option (List ℕ)) → Type 0
ConsumesWithin most after remaining left =
    (bytes : List ℕ) × (length bytes + after ≤ most) × Consumes remaining left bytes

-- how many bytes come before a part's line: at the start the first line of the bundle, and else
-- what is left of the part before, with its line feed
abbrev pub bytes_before_line : (start : Bool) → (left : ℕ) → ℕ
bytes_before_line start left = if start then 17 else left + 1

-- the most bytes that may come in a part that was opened: its own with their line feed, what the
-- bundle has room for after it, and a line
abbrev pub max_to_come_in : OpenPart → ℕ
max_to_come_in part = part.size + 1 + (part.room + max_line)

-- the most bytes that may come after a part's line was read: after the bundle's end, and after a
-- fault, none
abbrev pub max_to_come_after : Result (Option OpenPart) BundleFault → ℕ
max_to_come_after (Ok (Some part)) = max_to_come_in part
max_to_come_after (Ok None) = 0
max_to_come_after (Err fault) = 0

-- the most bytes that may come at a stage of reading
abbrev pub max_to_come_at : Stage → PartsState → ℕ
max_to_come_at stages.Start state = 17 + (state.room + max_line)
max_to_come_at stages.Part state = state.left + 1 + (state.room + max_line)
max_to_come_at stages.End state = 0
max_to_come_at stages.Failed state = 0

-- the most bytes that may come
abbrev pub max_to_come : PartsState → ℕ
max_to_come state = max_to_come_at state.stage state
