use Rattle.std.proofs.Common.{◌∙◌, ap, option_map, subst, sym}
use Rattle.std.proofs.lemmas.Result.{err_from_is_err_and}
use Rattle.mc_bundle.proofs.RestOfBundleLemmas.{advances_trans}
use Rattle.mc_files.proofs.PartLemmas.{Ok-from_refused_as}
use Rattle.mc_forward.specs.Domains.{DomainValue}
use Rattle.mc_input.specs.InputView.{certificate_text}
use Rattle.mc_input.specs.PartsOneByOne.{ReadsDomain, read_all_parts, read_rest}
use Rattle.mc_input.specs.Stream.{bundle_gives}
use Rattle.mc_input.specs.declared.source_fault.SourceFault.TheVariants.{Input as refused}
use Rattle.mc_input.proofs.BundleContentsLemmas.{IsFaultOf-read_all_parts, read_rest-after_topology}
use Rattle.mc_input.proofs.domain.read_parts.Goals as goal

-- The topology is the first part, so that a fault of it is the first of all.
pub returns-in_err-topology-clause-fault : goal.returns-in_err-topology-clause-fault
returns-in_err-topology-clause-fault g c =
    let p = err_from_is_err_and c.from_residual-in_err-topology.result
    c.from_residual-in_err-topology.ensures.1 in
    let s = c.args.slots.now in
    rw (p.1, p.2) (IsFaultOf-read_all_parts s.certified s.parts c.in_err-topology.field-0.0
    c.in_err-topology.ensures.fault)

-- The topology was read, so that the first fault of the parts after it is that of all.
pub returns-in_err-listed-clause-fault : goal.returns-in_err-listed-clause-fault
returns-in_err-listed-clause-fault g c =
    let p = err_from_is_err_and c.from_residual-in_err-listed.result
    c.from_residual-in_err-listed.ensures.1 in
    let s = c.args.slots.now in
    let new = c.topology_in.new.parts in
    let t = c.in_ok-topology.topology in
    rw (p.1, p.2) (λ text remaining loud.
    let x = c.in_ok-topology.ensures.topology text remaining in
    read_rest-after_topology s.certified s.parts new text x.0 x.1 t x.3 x.4.0 x.4.1
    ∙ c.in_err-listed.ensures.fault (bundle_gives new s.certified t 1 x.0)
    (ap (option_map (bundle_gives new s.certified t 1)) x.2) loud)

-- One call after another reads on from where the first stopped.
pub returns-in_err-listed-clause-advances : goal.returns-in_err-listed-clause-advances
returns-in_err-listed-clause-advances g c =
    advances_trans c.args.slots.now.parts c.topology_in.new.parts c.read_bundle_contents.new.slots.parts
    c.in_ok-topology.ensures.advances c.in_err-listed.ensures.advances

pub returns-in_err-domain-clause-advances : goal.returns-in_err-domain-clause-advances
returns-in_err-domain-clause-advances g c =
    advances_trans c.args.slots.now.parts c.topology_in.new.parts c.read_bundle_contents.new.slots.parts
    c.in_ok-topology.ensures.advances c.in_ok-listed.ensures.advances

-- The topology and what follows it are together all parts, and the domain consists of what is kept of
-- them.
pub returns-clause-read : goal.returns-clause-read
returns-clause-read g c = λ text remaining.
    let s = c.args.slots.now in
    let new = c.topology_in.new.parts in
    let t = c.in_ok-topology.topology in
    let certificate = certificate_text c.in_ok-listed.listed.certificate in
    let x = c.in_ok-topology.ensures.topology text remaining in
    let y = c.in_ok-listed.ensures.read (bundle_gives new s.certified t 1 x.0)
    (ap (option_map (bundle_gives new s.certified t 1)) x.2) in
    subst (λ (d : DomainValue). ReadsDomain s.parts text s.certified d certificate)
    (sym c.in_ok-domain.ensures.domain) (
      y.0,
      y.1,
      Ok-from_refused_as refused (read_rest s.parts text (read_all_parts s.certified)) (y.0, certificate)
          (read_rest-after_topology s.certified s.parts new text x.0 x.1 t x.3 x.4.0 x.4.1 ∙ y.2),
    )

pub returns-clause-advances : goal.returns-clause-advances
returns-clause-advances g c =
    advances_trans c.args.slots.now.parts c.topology_in.new.parts c.read_bundle_contents.new.slots.parts
    c.in_ok-topology.ensures.advances c.in_ok-listed.ensures.advances
