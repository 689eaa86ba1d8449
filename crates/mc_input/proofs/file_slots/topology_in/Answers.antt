use Rattle.std.proofs.Common.{◌∙◌, ap, Err, refl}
use Rattle.std.proofs.lemmas.Result.{err_from_is_err_and}
use Rattle.mc_bundle.specs.BundleView.{part_text}
use Rattle.mc_files.specs.Layout.{topology_slot}
use Rattle.mc_input.specs.PartsReading.{topology_of}
use Rattle.mc_input.proofs.FilesLemmas.{read_part-file_Err, read_part-content_Err, read_part-Ok}
use Rattle.mc_topology.specs.Reading.{parse_topology}
use Rattle.mc_input.specs.declared.fault.InputFault.TheVariants.{Topology as RefusedTopology}
use Rattle.mc_input.proofs.FaultLemmas.{is_possible_for_files-from_file_fault}
use Rattle.mc_input.proofs.FaultLemmas.{is_possible_for_files-from_reader}
use Rattle.mc_input.proofs.file_slots.topology_in.Goals as goal

-- The file can't be had, which is the fault of reading it.
pub returns-in_err-part-clause-topology : goal.returns-in_err-part-clause-topology
returns-in_err-part-clause-topology g c =
    let p = err_from_is_err_and c.from_residual.result c.from_residual.ensures.1 in
    λ contents is. rw (p.1 ∙ ap (λ f. Err f) p.2) (read_part-file_Err contents 0 topology_slot
    c.topology.result topology_of c.in_err-part.field-0.0 c.topology.ensures
    (c.in_err-part.ensures.part contents is))

-- The file was had, so that the fault of its text is the fault of reading it.
pub returns-in_err-topology_of-clause-topology : goal.returns-in_err-topology_of-clause-topology
returns-in_err-topology_of-clause-topology g c =
    let p = err_from_is_err_and c.from_residual-in_err-topology_of.result
    c.from_residual-in_err-topology_of.ensures.1 in
    λ contents is. rw (p.1 ∙ ap (λ f. Err f) p.2) (read_part-content_Err contents 0 topology_slot
    c.topology.result topology_of c.in_ok-part.part (part_text c.as_part.result)
    c.in_err-topology_of.field-0.0 c.topology.ensures (c.in_ok-part.ensures.part contents is)
    c.as_part.ensures c.in_err-topology_of.ensures)

-- The file was had, and its text is read as this topology.
pub returns-clause-topology : goal.returns-clause-topology
returns-clause-topology g c =
    λ contents is. read_part-Ok contents 0 topology_slot c.topology.result topology_of
    c.in_ok-part.part (part_text c.as_part.result) c.in_ok-topology_of.field-0 c.topology.ensures
    (c.in_ok-part.ensures.part contents is) c.as_part.ensures c.in_ok-topology_of.ensures

-- A source of files has no fault of a bundle but `TooLarge`.
pub returns-in_err-part-clause-faults : goal.returns-in_err-part-clause-faults
returns-in_err-part-clause-faults g c =
    let p = err_from_is_err_and c.from_residual.result c.from_residual.ensures.1 in
    rw (p.1 ∙ ap (λ f. Err f) p.2) (is_possible_for_files-from_file_fault c.in_err-part.field-0.0)

-- A topology's text has only faults of a topology.
pub returns-in_err-topology_of-clause-faults : goal.returns-in_err-topology_of-clause-faults
returns-in_err-topology_of-clause-faults g c =
    let p = err_from_is_err_and c.from_residual-in_err-topology_of.result
    c.from_residual-in_err-topology_of.ensures.1 in
    rw (p.1 ∙ ap (λ f. Err f) p.2)
    (is_possible_for_files-from_reader c.in_err-topology_of.field-0.0 RefusedTopology
    (parse_topology (part_text c.as_part.result).bytes) (λ e. refl) c.in_err-topology_of.ensures)
