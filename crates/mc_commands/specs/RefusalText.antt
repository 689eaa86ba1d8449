-- What an audit prints of the refused files of a folder (docs/FORMATS.md, the section "The program"): a line
-- for each, with its first fault and the front of the line that has the fault. `lost` is how many calls of
-- the source failed meanwhile.
use Rattle.std.specs.Prelude.{◌≡◌, ℕ, zero, suc, ◌+◌, ◌-◌, ◌/◌, ◌%◌, ◌==◌, ◌≤◌, ◌&&◌, not, nat_le, Bool}
use Rattle.std.specs.Prelude.{List, [], ◌∷◌, ◌++◌, length, take, flat_map, map, codes, decimal, Option}
use Rattle.std.specs.Prelude.{Some, None, IfSome, unwrap_or, Result, Ok, Err, if◌then◌else◌, string_bytes}
use Rattle.std.specs.Io.KnownBytes.{Appends}
use Rattle.mc_text.specs.Lines.{max_text}
use Rattle.mc_bundle.specs.Device.{AppendsProperPrefix}
use Rattle.mc_files.specs.Files.{FileText, file_named}
use Rattle.mc_files.specs.FilePart.{unread_text}
use Rattle.mc_input.specs.RefusedFiles.{AreUnreadFilesMissing, AreRefusedFiles, saturating_failures}
use Rattle.mc_input.specs.RefusedFiles.{refused_files_of, as_judged_file, unread_count}
use Rattle.mc_input.specs.declared.refused_file.RefusedFile.{RefusedFile}
use Rattle.mc_input.specs.declared.refused_file.Refusal.{Refusal}
use Rattle.mc_input.specs.declared.refused_file.Refusal.TheVariants.{Unread, Fault}
use Rattle.mc_shown.specs.RowText.{hex_digit_of}
use Rattle.mc_commands.specs.FaultText.{fault_text, line_of_fault}
use Rattle.mc_commands.specs.LineFront.{line_front}
use Rattle.mc_commands.specs.declared.fault.RunFault.{RunFault}
use Rattle.mc_commands.specs.declared.fault.RunFault.TheVariants.{Memory, Write}

-- ---- the front of a line

-- whether a byte is printed as it is between quotes: 0x20 to 0x7e, but not the quote and the backslash
abbrev pub is_unescaped : ℕ → Bool
is_unescaped byte = ((nat_le 0x20 byte && nat_le byte 0x7e) && not (byte == 0x22)) && not (byte == 0x5c)

-- a byte between quotes; one that is escaped is written `\xhh`
abbrev pub quoted_byte : ℕ → List ℕ
quoted_byte byte =
    if is_unescaped byte
    then byte ∷ []
    else codes "\\x" ++ (hex_digit_of (byte / 16) ∷ hex_digit_of (byte % 16) ∷ [])

-- bytes between quotes
abbrev pub quoted : List ℕ → List ℕ
quoted bytes = flat_map quoted_byte bytes

-- This is the front of the line in the source's file with this name, of whose bytes only as many count as a
-- bundle's part may have. If the source's contents aren't known, only the front's greatest length is.
pub record IsFrontInFile (contents : Option (List FileText)) (name : List ℕ) (line : ℕ) (front : List ℕ)
    : Type 0 where
  pub bounded : length front ≤ 100
  pub known : (files : List FileText) → contents ≡ Some files →
      (bytes : List ℕ) × (file_named files name ≡ Some bytes)
      × (front ≡ line_front line (take max_text bytes))

-- how many calls of a source fail where it gives this front: none, or one if it gives no front
abbrev pub lost_calls : Option (List ℕ) → ℕ
lost_calls (Some front) = 0
lost_calls None = 1

-- This follows the words of a fault: nothing if no line has it, and otherwise the front of the line in
-- quotes, which is empty if the source fails to give the file again.
abbrev pub IsFrontText : Option (List FileText) → (name : List ℕ) → (line : Option ℕ) → (lost : ℕ)
    → (text : List ℕ) → Type 0
IsFrontText contents name None lost text = (lost ≡ 0) × (text ≡ [])
IsFrontText contents name (Some line) lost text =
    (front : Option (List ℕ)) × IfSome front (IsFrontInFile contents name line) × (lost ≡ lost_calls front)
    × (text ≡ codes ": \"" ++ (quoted (unwrap_or front []) ++ codes "\""))

-- ---- the lines

-- These words say why a file is refused. For a file that can't be opened or read they may be the system's
-- own.
abbrev pub IsRefusalReason : Option (List FileText) → (name : List ℕ) → Refusal → (lost : ℕ)
    → (words : List ℕ) → Type 0
IsRefusalReason contents name (Unread unread) lost words =
    (lost ≡ 0) × IfSome (unread_text unread) (λ known. words ≡ known)
IsRefusalReason contents name (Fault fault) lost words =
    (front : List ℕ) × IsFrontText contents name (line_of_fault fault) lost front
    × (words ≡ fault_text fault ++ front)

-- These words say why this file is refused.
abbrev pub IsReasonOfFile : Option (List FileText) → RefusedFile → (lost : ℕ) → (words : List ℕ) → Type 0
IsReasonOfFile contents file lost words =
    IsRefusalReason contents (string_bytes file.name) file.refusal lost words

-- This is the line of a refused file.
abbrev pub IsRefusedFileLine : Option (List FileText) → RefusedFile → (lost : ℕ) → (line : List ℕ) → Type 0
IsRefusedFileLine contents file lost line =
    (words : List ℕ) × IsReasonOfFile contents file lost words
    × (line ≡ codes "  " ++ (string_bytes file.name ++ (codes ": " ++ (words ++ codes "\n"))))

-- These are the lines of the refused files, in order.
abbrev pub AreRefusedFileLines : Option (List FileText) → List RefusedFile → (lost : ℕ)
    → (text : List ℕ) → Type 0
AreRefusedFileLines contents [] lost text = (lost ≡ 0) × (text ≡ [])
AreRefusedFileLines contents (file ∷ files) lost text =
    (one more : ℕ) × (line rest : List ℕ) × IsRefusedFileLine contents file one line
    × AreRefusedFileLines contents files more rest
    × (lost ≡ one + more) × (text ≡ line ++ rest)

-- the line that counts the further refused files; nothing if there are none
abbrev pub more_line : ℕ → List ℕ
more_line zero = []
more_line (suc more) = codes "  and " ++ (decimal (suc more) ++ codes " more\n")

-- These are the lines of the first 50 files, and the one that counts the further files.
abbrev pub AreFirst50Lines : Option (List FileText) → List RefusedFile → (lost : ℕ) → (text : List ℕ)
    → Type 0
AreFirst50Lines contents files lost text =
    (lines : List ℕ) × AreRefusedFileLines contents (take 50 files) lost lines
    × (text ≡ lines ++ more_line (length files - 50))

-- This is the text about the refused files that the source gives. The source's failures are one for each file
-- that can't be read, and one for each front that it didn't give.
pub record IsRefusalText (names : List (List ℕ)) (contents : Option (List FileText)) (before after : ℕ)
    (text : List ℕ) : Type 0 where
  pub refused : List RefusedFile
  pub listed : (files : List FileText) → contents ≡ Some files
      → AreRefusedFiles names files (map as_judged_file refused)
  pub exact : (files : List FileText) → contents ≡ Some files
      → AreUnreadFilesMissing files (map as_judged_file refused)
      → map as_judged_file refused ≡ refused_files_of names files
  pub lost : ℕ
  pub lines : AreFirst50Lines contents refused lost text
  pub failures : after ≡ saturating_failures (unread_count (map as_judged_file refused) + lost) before

-- ---- writing the text

-- What was appended to the text is right for the number of the source's calls that failed meanwhile.
pub record AppendsWithFailures (IsRight : (lost : ℕ) → (added : List ℕ) → Type 0) (old new : List ℕ)
    (before after : ℕ) : Type 0 where
  pub lost : ℕ
  pub added : List ℕ
  pub right : IsRight lost added
  pub whole : new ≡ old ++ added
  pub failures : after ≡ saturating_failures lost before

-- What becomes of the text: it is written whole, or a part of it if the output fails, or nothing if memory
-- runs out. No other fault is returned.
abbrev pub IsTextWritten : (IsText : List ℕ → Type 0) → Result (Unit {0}) RunFault → Option (List ℕ)
    → Option (List ℕ) → Type 0
IsTextWritten IsText (Ok done) old new = (text : List ℕ) × IsText text × Appends old new text
IsTextWritten IsText (Err Write) old new = (text : List ℕ) × IsText text × AppendsProperPrefix old new text
IsTextWritten IsText (Err Memory) old new = new ≡ old
IsTextWritten IsText (Err fault) old new = ⊥
