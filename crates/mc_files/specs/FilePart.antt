-- The part that a folder's file makes, or why it makes none, and how that is printed.
use Rattle.std.specs.Prelude.{ℕ, nat_le, List, length, Option, Some, None, Result, Ok, Err, ⊤, codes}
use Rattle.std.specs.Prelude.{if◌then◌else◌}
use Rattle.mc_text.specs.Steps.{◌>>=◌}
use Rattle.mc_bundle.specs.Bundle.{PartText, max_part}
use Rattle.mc_files.specs.Files.{FileText, file_named}
use Rattle.mc_files.specs.Layout.{Slot, file_name, part_name}
use Rattle.mc_files.specs.declared.fault.FileFault.{FileFault}
use Rattle.mc_files.specs.declared.fault.FileFault.TheVariants.{Failed, TooLarge}
use Rattle.mc_files.specs.declared.unread.Unread.{Unread}
use Rattle.mc_files.specs.declared.unread.Unread.TheVariants.{NoSuchFile, NotRegular}
use Rattle.mc_files.specs.declared.unread.Unread.TheVariants.{PermissionDenied, System, Failed as read_failed}

-- the fault is that a call failed or that memory ran out, and says nothing of the file
abbrev pub IsFailedOrMemory : FileFault → Type 0
IsFailedOrMemory TooLarge = ⊥
IsFailedOrMemory fault = ⊤

-- the bytes of a file, which has to be there (else Failed) and to have no more bytes than a part
-- may have (TooLarge)
abbrev pub bytes_within_max_part : Option (List ℕ) → Result (List ℕ) FileFault
bytes_within_max_part None = Err Failed
bytes_within_max_part (Some bytes) = if nat_le (length bytes) max_part then Ok bytes else Err TooLarge

-- the part that a slot's file makes: its name is the slot's in a bundle
abbrev pub file_part : List FileText → Slot → Result PartText FileFault
file_part files slot =
    bytes_within_max_part (file_named files (file_name slot))
    >>= λ bytes. Ok (record { name = part_name slot; bytes = bytes })

-- The text after a file's name in a list of refused files: why it can't be read. An error of the
-- system has the system's own text, which isn't known here.
abbrev pub unread_text : Unread → Option (List ℕ)
unread_text NoSuchFile = Some (codes "no such file")
unread_text NotRegular = Some (codes "not a regular file")
unread_text PermissionDenied = Some (codes "permission denied")
unread_text (System error) = None
unread_text read_failed = Some (codes "a read failed")
