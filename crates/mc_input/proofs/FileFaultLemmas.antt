-- The fault of one file, as it is read of the slot of the file.
use Rattle.std.specs.Prelude.{◌≡◌, ◌≢◌, ℕ, false, List}
use Rattle.std.specs.Prelude.{Option, Some, Result, Ok, Err, refl}
use Rattle.std.specs.Prelude.{slice_get, IfErr, IfOk}
use Rattle.std.proofs.Common.{ap, inl, inr, sym, ◌∙◌}
use Rattle.std.specs.Result.{result_err}
use Rattle.mc_bundle.specs.Bundle.{PartText}
use Rattle.mc_text.specs.Steps.{map_fault}
use Rattle.mc_text.specs.declared.text.addr.Order.{Order}
use Rattle.mc_tables.specs.CacheTable.{CacheValue}
use Rattle.mc_tables.specs.ListedRows.{listed_in}
use Rattle.mc_tables.specs.declared.fault.TableFault.{TableFault}
use Rattle.mc_tables.proofs.ListedPartLemmas.{listed_in-is_part, listed_in-same_fault}
use Rattle.mc_topology.specs.Topology.{TopologyValue}
use Rattle.mc_files.specs.Files.{FileText}
use Rattle.mc_files.specs.Layout.{Slot, file_name, slots}
use Rattle.mc_input.specs.FilesReading.{files_as_source}
use Rattle.mc_input.specs.PartsReading.{cache_of, read_part}
use Rattle.mc_input.specs.RefusedFiles.{IsOwnFaultUnlessMemory}
use Rattle.mc_input.specs.RefusedFiles.{file_fault}
use Rattle.mc_input.specs.RefusedFiles.{judged_file}
use Rattle.mc_input.specs.SourceFault.{IsReadOrMemory}
use Rattle.mc_input.specs.Stream.{IsFaultOfStream, KeepsOfFirst, Stream, files_give, part_then, read_first}
use Rattle.mc_input.specs.Stream.{read_stream}
use Rattle.mc_input.proofs.CacheLemmas.{listed_part}
use Rattle.mc_input.proofs.ReadingLemmas.{drop-slice_get}
use Rattle.mc_input.specs.declared.fault.InputFault.{InputFault}
use Rattle.mc_input.specs.declared.fault.InputFault.TheVariants.{Cache, Memory}
use Rattle.mc_input.specs.declared.source_fault.SourceFault.{SourceFault}
use Rattle.mc_input.specs.declared.source_fault.SourceFault.TheVariants.{Input, Read}

-- a fault that isn't that of the source or of memory isn't silent
pub not_IsReadOrMemory-from_fault : (fault : InputFault)
    → (let own : Option SourceFault = Some (Input fault) in own) ≢ Some (Input Memory)
    → ¬ IsReadOrMemory (Input fault)
not_IsReadOrMemory-from_fault fault loud silent = elim silent [ inl e ↦ absurd cc | inr e ↦ loud (ap Some e) ]

-- what is read of a slot gives the fault of its file
pub IsOwnFaultUnlessMemory-of_slot : {K Y : Type 0} (files : List FileText) (t : TopologyValue)
    (n : ℕ) (slot : Slot)
    (read : PartText → Result Y InputFault) (gives later : Option Stream) (Keeps : K → Y → Type 0)
    (r : Result K SourceFault) → slice_get (slots false t) n ≡ Some slot → gives ≡ Some (files_give t n files)
    → IfOk r (λ kept. KeepsOfFirst gives later read (Keeps kept))
    → IfErr r (IsFaultOfStream gives (read_first read))
    → IsOwnFaultUnlessMemory (result_err r) (file_fault files slot read)
IsOwnFaultUnlessMemory-of_slot {K = K} {Y = Y} files t n slot read gives later Keeps r at
    known keeps refused =
    by r keeps refused
  where
    same : read_stream (read_first read) (files_give t n files)
        ≡ read_part Input (files_as_source files 0 slot) read
    same = rw (drop-slice_get (slots false t) n slot at) refl

    kept : (y : Y) (part : PartText) (rest : Stream) → read part ≡ Ok y
        → files_give t n files ≡ part_then part rest
        → read_part Input (files_as_source files 0 slot) read ≡ Ok y
    kept y part (Ok others) is e =
        sym same ∙ ap (read_stream (read_first read)) e ∙ ap (map_fault Input) is
    kept y part (Err fault) is e = absurd cc

    by : (r : Result K SourceFault) → IfOk r (λ kept. KeepsOfFirst gives later read (Keeps kept))
        → IfErr r (IsFaultOfStream gives (read_first read))
        → IsOwnFaultUnlessMemory (result_err r) (file_fault files slot read)
    by (Ok own) keeps refused = λ loud.
        let x = keeps (files_give t n files) known in ap result_err (kept x.4.0 x.1 x.0 x.4.1 x.3)
    by (Err Read) keeps refused = λ loud. tt
    by (Err (Input fault)) keeps refused = λ loud. ap result_err (sym same
        ∙ refused (files_give t n files) known (not_IsReadOrMemory-from_fault fault loud))

-- the rows of these sources and groups are refused as the whole cache is
file_fault-listed_part : (files : List FileText) (slot : Slot) (order : Order) (pairs : List (ℕ × ℕ))
    → file_fault files slot (listed_part order pairs) ≡ file_fault files slot (cache_of order)
file_fault-listed_part files slot order pairs = by (files_as_source files 0 slot)
  where
    by_part : (part : PartText) (r : Result CacheValue TableFault)
        → listed_in order (Some pairs) part.bytes ≡ r
        → result_err (map_fault Input (map_fault (Cache part.name) r))
        ≡ result_err (map_fault Input (cache_of order part))
    by_part part (Ok listed) is =
        let whole = listed_in-is_part order (Some pairs) part.bytes listed is in rw whole.1 refl
    by_part part (Err own) is = rw ((listed_in-same_fault order (Some pairs) part.bytes own).0 is) refl

    by : (given : Result PartText SourceFault)
        → result_err (read_part Input given (listed_part order pairs))
        ≡ result_err (read_part Input given (cache_of order))
    by (Ok part) = by_part part (listed_in order (Some pairs) part.bytes) refl
    by (Err fault) = refl

-- so the cache's file is judged the same
pub judged_file-listed_part : (files : List FileText) (slot : Slot) (order : Order) (pairs : List (ℕ × ℕ))
    → judged_file files slot (listed_part order pairs) ≡ judged_file files slot (cache_of order)
judged_file-listed_part files slot order pairs =
    λ i. record { name = file_name slot; fault = file_fault-listed_part files slot order pairs i }
