-- What is read of the slot of a file by itself.
use Rattle.std.specs.Prelude.{◌≡◌, ℕ, List, Option, Some, Result, Ok, Err, IfErr, IfOk, ◌+◌, drop, false}
use Rattle.std.specs.Prelude.{slice_get, ◌∷◌, refl}
use Rattle.std.proofs.Common.{ap, ◌∙◌, sym}
use Rattle.mc_bundle.specs.Bundle.{PartText}
use Rattle.mc_text.specs.Steps.{◌>>=◌, map_fault}
use Rattle.mc_topology.specs.Topology.{TopologyValue}
use Rattle.mc_files.specs.FilePart.{file_part}
use Rattle.mc_files.specs.Files.{FileText}
use Rattle.mc_files.specs.Layout.{Slot, slots}
use Rattle.mc_files.specs.declared.fault.FileFault.{FileFault}
use Rattle.mc_files.proofs.PartLemmas.{Ok-from_refused_as}
use Rattle.mc_input.specs.FilesReading.{files_as_source}
use Rattle.mc_input.specs.SourceFault.{IsReadOrMemory, from_file_fault}
use Rattle.mc_input.specs.Stream.{IsFaultOfStream, KeepsOfFirst, NextParts, Stream, files_give, part_then}
use Rattle.mc_input.specs.Stream.{parts_of_slots, read_first, read_stream}
use Rattle.mc_input.specs.declared.fault.InputFault.{InputFault}
use Rattle.mc_input.specs.declared.source_fault.SourceFault.{SourceFault}
use Rattle.mc_input.specs.declared.source_fault.SourceFault.TheVariants.{Input}
use Rattle.mc_input.proofs.MeansLemmas.{IsReadOrMemory-by_contradiction}
use Rattle.mc_input.proofs.ReadingLemmas.{drop-slice_get}

-- the part and what is read of it
abbrev pub IsReadOfFile : {Y : Type 0} → List FileText → Slot → (PartText → Result Y InputFault) → Y → Type 0
IsReadOfFile files slot read kept =
    (part : PartText) × (file_part files slot ≡ Ok part) × (read part ≡ Ok kept)

module _ {Y : Type 0} (files : List FileText) (t : TopologyValue) (n : ℕ) (slot : Slot)
    (at : slice_get (slots false t) n ≡ Some slot) (read : PartText → Result Y InputFault) where
  -- the parts of the slots after this one
  abbrev others : NextParts
  others = parts_of_slots (files_as_source files) (n + 1) (drop (n + 1) (slots false t))

  -- the file's part comes first
  given : files_give t n files ≡ (let s : Stream = Ok (files_as_source files n slot ∷ others) in s)
  given = rw (drop-slice_get (slots false t) n slot at) refl

  -- so what is left after the first part is that of the file
  first_of_file : (part : PartText) (later : Stream) → files_give t n files ≡ part_then part later
      → file_part files slot ≡ Ok part
  first_of_file part later e =
      Ok-from_refused_as from_file_fault (file_part files slot) part
      (by later (sym given ∙ e))
    where
      by : (later : Stream)
          → (let s : Stream = Ok (files_as_source files n slot ∷ others) in s) ≡ part_then part later
          → files_as_source files n slot ≡ Ok part
      by (Ok more) e = cc
      by (Err fault) e = absurd cc

  -- a file that can be read is refused only where the source fails or memory runs out
  pub IsReadOrMemory-of_slot : (gives : Option Stream) (r : Result Y SourceFault)
      (part : PartText) (value : Y)
      → gives ≡ Some (files_give t n files) → file_part files slot ≡ Ok part → read part ≡ Ok value
      → IfErr r (IsFaultOfStream gives (read_first read)) → IfErr r IsReadOrMemory
  IsReadOrMemory-of_slot gives (Ok kept) part value known made is refused = tt
  IsReadOrMemory-of_slot gives (Err fault) part value known made is refused =
      IsReadOrMemory-by_contradiction fault (read_stream (read_first read) (files_give t n files) ≡ Err fault)
      (refused (files_give t n files) known) (λ e. not_both (sym reads ∙ e))
    where
      reads : read_stream (read_first read) (files_give t n files) ≡ Ok value
      reads =
          ap (read_stream (read_first read)) given
          ∙ ap (λ (p : Result PartText FileFault). map_fault from_file_fault p
          >>= λ own. map_fault Input (read own)) made
          ∙ ap (map_fault Input) is

      not_both : {x : Y} {fault : SourceFault} → (let r : Result Y SourceFault = Ok x in r) ≡ Err fault → ⊥
      not_both e = cc

  -- what is kept of the first part is read of the file
  pub IsReadOfFile-of_slot : (gives later : Option Stream) (r : Result Y SourceFault)
      → gives ≡ Some (files_give t n files)
      → IfOk r (λ kept. KeepsOfFirst gives later read (λ value. kept ≡ value))
      → IfOk r (IsReadOfFile files slot read)
  IsReadOfFile-of_slot gives later (Ok kept) known keeps =
      let x = keeps (files_give t n files) known in
      (x.1, first_of_file x.1 x.0 x.3, x.4.1 ∙ ap Ok (sym x.4.2))
  IsReadOfFile-of_slot gives later (Err fault) known keeps = tt
