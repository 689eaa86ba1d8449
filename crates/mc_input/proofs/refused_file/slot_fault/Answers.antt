use Rattle.std.proofs.Common.{◌≡◌, List, Option, ap, option_map, subst, sym}
use Rattle.mc_files.specs.Files.{FileText}
use Rattle.mc_input.specs.RefusedFiles.{IsOwnFaultUnlessMemory, file_fault}
use Rattle.mc_input.specs.Stream.{files_give}
use Rattle.mc_input.specs.declared.source_fault.SourceFault.{SourceFault}
use Rattle.mc_input.proofs.FileFaultLemmas.{IsOwnFaultUnlessMemory-of_slot}
use Rattle.mc_input.proofs.refused_file.slot_fault.Goals as goal

-- The slot's own file is the first of what the folder gives from its number on, so that the fault of
-- the first part is the file's own.
pub returns-clause-fault : goal.returns-clause-fault
returns-clause-fault g c = λ read slot contents same at is.
    let t = c.args.slot.now.topology in
    let n = c.args.slot.now.number in
    subst (λ (f : Option SourceFault). IsOwnFaultUnlessMemory f (file_fault contents slot read))
    (sym c.err-fault.ensures.value)
    (IsOwnFaultUnlessMemory-of_slot contents t n slot read _ _
    (λ kept value. kept ≡ value) c.read_slot.result at
    (ap (option_map (λ (files : List FileText). files_give t n files)) is)
    (c.read_slot.ensures.value read same) (c.read_slot.ensures.fault read same))
