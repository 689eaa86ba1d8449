-- Texts that were fed to a reader whole, in pieces. A reader's state is seen by the result that it would give
-- if further bytes were fed: `before` is that of its old state, and `after` that of its new one.
use Rattle.std.specs.Prelude.{◌≡◌, ◌≤◌, ℕ, List, [], length, Ok, Option, Some, None, option_map}
use denote.Ref.{Bor}
use Rattle.mc_text.specs.Lines.{max_text}
use Rattle.mc_files.specs.FilePart.{bytes_within_max_part}
use Rattle.mc_files.specs.Files.{FileText, file_named}
use Rattle.mc_files.specs.Layout.{Slot, file_name}

-- The file with this name was fed, which is no larger than a text may be.
abbrev pub HasFedFile : {R : Type 0} → List FileText → (name : List ℕ) → (before after : List ℕ → R) → Type 0
HasFedFile files name before after =
    (bytes : List ℕ) × (bytes_within_max_part (file_named files name) ≡ Ok bytes)
    × (length bytes ≤ max_text) × (before bytes ≡ after [])

-- the header, if there is one, or else the file
abbrev pub header_or_file : (header found : Option (List ℕ)) → Option (List ℕ)
header_or_file (Some bytes) found = Some bytes
header_or_file None found = found

-- The files `seen` have the header in place of this slot's file, if there is a header, and otherwise the
-- slot's own file.
abbrev pub SeesHeaderOrFile : (files seen : List FileText) → Slot → Option (Bor (List ℕ)) → Type 0
SeesHeaderOrFile files seen slot header =
    file_named seen (file_name slot)
    ≡ header_or_file (option_map (λ bytes. bytes.now) header) (file_named files (file_name slot))
