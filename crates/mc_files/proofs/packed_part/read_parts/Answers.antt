use Rattle.std.proofs.Common.{◌≡◌, List, ℕ, ap, ◌∙◌, Err, Ok, subst}
use Rattle.std.proofs.lemmas.Result.{err_from_is_err_and}
use Rattle.mc_bundle.specs.Bundle.{PartText}
use Rattle.mc_files.specs.FilePart.{IsFailedOrMemory, file_part}
use Rattle.mc_files.specs.Layout.{Slot}
use Rattle.mc_files.specs.PackReading.{read_topology}
use Rattle.mc_files.specs.PackRun.{IsIoOrMemory}
use Rattle.mc_files.proofs.PackLemmas.{Gives-topology_file_refused, Gives-topology_refused, Gives-other_parts}
use Rattle.mc_files.proofs.packed_part.read_parts.Goals as goal

-- The topology's file is the first that is read, so that its fault is the first.
pub returns-in_err-first-clause-parts : goal.returns-in_err-first-clause-parts
returns-in_err-first-clause-parts g c =
    let p = err_from_is_err_and c.from_residual.result c.from_residual.ensures.1 in
    λ contents is. Gives-topology_file_refused contents c.args.certified (λ parts. parts.items)
    c.from_residual.result c.in_err-first.field-0.0
    (subst (λ (s : Slot). (¬ IsFailedOrMemory c.in_err-first.field-0.0)
    → file_part contents s ≡ Err c.in_err-first.field-0.0) c.topology.ensures
    (c.in_err-first.ensures.part contents is))
    (p.1 ∙ ap (λ f. Err f) p.2)

-- The topology is parsed before another file is read, so that its fault comes next.
pub returns-in_err-topology-clause-parts : goal.returns-in_err-topology-clause-parts
returns-in_err-topology-clause-parts g c =
    let p = err_from_is_err_and c.from_residual-in_err-topology.result
    c.from_residual-in_err-topology.ensures.1 in
    λ contents is. Gives-topology_refused contents c.args.certified c.in_ok-first.first
    (λ parts. parts.items) c.from_residual-in_err-topology.result c.in_err-topology.field-0.0
    (subst (λ (s : Slot). file_part contents s ≡ Ok c.in_ok-first.first) c.topology.ensures
    (c.in_ok-first.ensures.part contents is))
    (subst (λ (bytes : List ℕ). (¬ IsIoOrMemory c.in_err-topology.field-0.0)
    → read_topology bytes ≡ Err c.in_err-topology.field-0.0)
    (ap (λ (p : PartText). p.bytes) c.as_part.ensures) c.in_err-topology.ensures.topology)
    (p.1 ∙ ap (λ f. Err f) p.2)

-- The topology's file and the topology were read, and the other parts follow as defined.
pub returns-clause-parts : goal.returns-clause-parts
returns-clause-parts g c =
    λ contents is. Gives-other_parts contents c.args.certified c.in_ok-first.first
    c.in_ok-topology.topology (λ parts. parts.items) c.parts_after.result
    (subst (λ (s : Slot). file_part contents s ≡ Ok c.in_ok-first.first) c.topology.ensures
    (c.in_ok-first.ensures.part contents is))
    (subst (λ (bytes : List ℕ). read_topology bytes ≡ Ok c.in_ok-topology.topology)
    (ap (λ (p : PartText). p.bytes) c.as_part.ensures) c.in_ok-topology.ensures.topology)
    (c.parts_after.ensures.parts contents (c.part_of_file.ensures.kept ∙ is))
