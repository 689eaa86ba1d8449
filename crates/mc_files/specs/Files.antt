-- The files of a folder, and what a source of files answers when one is asked for.
use Rattle.std.specs.Prelude.{◌≡◌, ℕ, ◌<◌, Bool, true, false, List, find, length}
use Rattle.std.specs.Prelude.{Option, option_map, Some, None, Result, Ok, Err, ⊤}
use Rattle.std.specs.Str.{bytes_eq}
use Rattle.mc_text.specs.Steps.{Gives}
use Rattle.mc_bundle.specs.declared.io.input_bytes.ReadFault.{ReadFault}
use Rattle.mc_bundle.specs.declared.io.input_bytes.ReadFault.TheVariants as reading
use Rattle.mc_files.specs.declared.fault.FileFault.{FileFault}
use Rattle.mc_files.specs.declared.fault.FileFault.TheVariants.{Failed, TooLarge, Memory}

-- a file: its name and its bytes
pub record FileText : Type 0 where
  pub name : List ℕ
  pub bytes : List ℕ

-- the bytes of the first file with this name, if there is one
abbrev pub file_named : List FileText → List ℕ → Option (List ℕ)
file_named files name = option_map (λ file. file.bytes)
    (find (λ file. bytes_eq file.name name) files)

-- What `read` answers for a file with these bytes, or for none: all of the bytes, or that they are
-- more than the limit. That the call failed or that memory ran out says nothing of the file.
abbrev pub IsRead : {X : Type 0} → (X → List ℕ) → Option (List ℕ) → ℕ → Result X FileFault → Type 0
IsRead items (Some bytes) limit (Ok read) = items read ≡ bytes
IsRead items None limit (Ok read) = ⊥
IsRead items (Some bytes) limit (Err TooLarge) = limit < length bytes
IsRead items None limit (Err TooLarge) = ⊥
IsRead items found limit (Err Failed) = ⊤
IsRead items found limit (Err Memory) = ⊤

-- whether the fault is that a call failed, which the source counts
abbrev pub is_failure : FileFault → Bool
is_failure Failed = true
is_failure fault = false

-- If the files of the source are known, the result, with `view` applied to its value, is what the
-- step gives for them, or its fault is a silent one, which says nothing of them.
abbrev pub GivesFromContents : {X Y E : Type 0} → (Silent : E → Type 0) → Option (List FileText) → (X → Y)
    → Result X E → (List FileText → Result Y E) → Type 0
GivesFromContents Silent contents view result step =
    (files : List FileText) → contents ≡ Some files → Gives Silent view result (step files)

-- a fault of reading, as one of a file
abbrev pub from_read_fault : ReadFault → FileFault
from_read_fault reading.Read = Failed
from_read_fault reading.Memory = Memory
