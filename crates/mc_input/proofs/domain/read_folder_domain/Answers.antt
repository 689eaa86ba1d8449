use Rattle.std.proofs.Common.{◌∙◌, Err, List, ap, subst, sym}
use Rattle.std.proofs.lemmas.Result.{err_from_is_err_and}
use Rattle.mc_text.specs.Steps.{map_fault}
use Rattle.mc_topology.specs.Topology.{TopologyValue}
use Rattle.mc_asked.specs.LanWants.{LanWantsValue}
use Rattle.mc_input.specs.AskedOfFiles.{IsAskedOf}
use Rattle.mc_input.specs.ExcludedRouters.{AreRouterNames, files_with_exclusions, names_of}
use Rattle.mc_input.specs.ListsOfFiles.{AreWantsOf}
use Rattle.mc_input.specs.Meaning.{FilesMeanDomain}
use Rattle.mc_input.specs.SummariesOfFiles.{AreSummariesOf}
use Rattle.mc_input.specs.declared.exclusion_fault.ExclusionFault.TheVariants.{Source}
use Rattle.mc_input.proofs.ExcludedLemmas.{AreRouterNames-from_Ok, input_of_files_without-name_Err}
use Rattle.mc_input.proofs.ExcludedLemmas.{input_of_files-with_exclusions, input_of_files_without-names_Ok}
use Rattle.mc_input.proofs.ExcludedLemmas.{input_of_files_without-topology_Err}
use Rattle.mc_input.proofs.FilesMeansLemmas.{AreFilesReadAsMeant-from_fault, FilesMeanDomain-from_other_files}
use Rattle.mc_input.proofs.FilesMeansLemmas.{IfSome-from_known, IsFirstFault}
use Rattle.mc_input.proofs.UniqueDomain.{FilesMeanDomain-unique}
use Rattle.mc_input.proofs.domain.read_folder_domain.Goals as goal

-- ---- the topology is refused

-- The topology is read first, so that its fault is the first.
pub returns-in_err-topology-clause-fault : goal.returns-in_err-topology-clause-fault
returns-in_err-topology-clause-fault g c =
    let p = err_from_is_err_and c.from_residual-in_err-topology.result
    c.from_residual-in_err-topology.ensures.1 in
    let names = names_of c.args.without.now in
    let own = c.in_err-topology.field-0.0 in
    rw (p.1 ∙ ap (λ f. Err f) p.2)
    (IfSome-from_known (IsFirstFault names (Source own)) (g.F.FileSource.contents c.args.files.now)
    (λ contents is no. input_of_files_without-topology_Err names contents own
    (c.in_err-topology.ensures.topology contents is no)))

-- Files with a first fault mean no domain.
pub returns-in_err-topology-clause-only : goal.returns-in_err-topology-clause-only
returns-in_err-topology-clause-only g c =
    let p = err_from_is_err_and c.from_residual-in_err-topology.result
    c.from_residual-in_err-topology.ensures.1 in
    AreFilesReadAsMeant-from_fault (λ read. read.domain) (names_of c.args.without.now)
    (g.F.FileSource.contents c.args.files.now) c.from_residual-in_err-topology.result p.0 p.1
    (returns-in_err-topology-clause-fault g c)

-- ---- a name is refused

-- The topology is read, and the names are checked next.
pub returns-in_err-check_names-clause-fault : goal.returns-in_err-check_names-clause-fault
returns-in_err-check_names-clause-fault g c =
    let p = err_from_is_err_and c.from_residual-in_err-check_names.result
    c.from_residual-in_err-check_names.ensures.1 in
    let names = names_of c.args.without.now in
    let own = c.in_err-check_names.field-0.0 in
    rw (p.1 ∙ ap (λ f. Err f) p.2)
    (IfSome-from_known (IsFirstFault names own) (g.F.FileSource.contents c.args.files.now) (λ contents is no.
    input_of_files_without-name_Err names contents c.in_ok-topology.topology own
    (c.in_ok-topology.ensures.topology contents is) (sym c.in_err-check_names.ensures.names)))

pub returns-in_err-check_names-clause-only : goal.returns-in_err-check_names-clause-only
returns-in_err-check_names-clause-only g c =
    let p = err_from_is_err_and c.from_residual-in_err-check_names.result
    c.from_residual-in_err-check_names.ensures.1 in
    AreFilesReadAsMeant-from_fault (λ read. read.domain) (names_of c.args.without.now)
    (g.F.FileSource.contents c.args.files.now) c.from_residual-in_err-check_names.result p.0 p.1
    (returns-in_err-check_names-clause-fault g c)

-- Names are checked without a call of the source.
pub returns-in_err-check_names-clause-failures : goal.returns-in_err-check_names-clause-failures
returns-in_err-check_names-clause-failures g c =
    let p = err_from_is_err_and c.from_residual-in_err-check_names.result
    c.from_residual-in_err-check_names.ensures.1 in
    rw (p.1 ∙ ap (λ f. Err f) p.2, c.in_err-check_names.ensures.fault) c.in_ok-topology.ensures.failures

pub returns-in_err-check_names-clause-faults : goal.returns-in_err-check_names-clause-faults
returns-in_err-check_names-clause-faults g c =
    let p = err_from_is_err_and c.from_residual-in_err-check_names.result
    c.from_residual-in_err-check_names.ensures.1 in
    rw (p.1 ∙ ap (λ f. Err f) p.2) c.in_err-check_names.ensures.faults

-- ---- another file is refused

-- The topology and the names are right, so that the first fault of the other files is that of all.
pub returns-in_err-once-clause-fault : goal.returns-in_err-once-clause-fault
returns-in_err-once-clause-fault g c =
    let p = err_from_is_err_and c.from_residual-in_err-once.result c.from_residual-in_err-once.ensures.1 in
    let names = names_of c.args.without.now in
    let own = c.in_err-once.field-0.0 in
    rw (p.1 ∙ ap (λ f. Err f) p.2)
    (IfSome-from_known (IsFirstFault names (Source own)) (g.F.FileSource.contents c.args.files.now)
    (λ contents is no.
    let topology = c.in_ok-topology.ensures.topology contents is in
    input_of_files_without-names_Ok names contents
    c.in_ok-topology.topology c.in_ok-check_names.field-0 topology
    (sym c.in_ok-check_names.ensures.names)
    ∙ ap (map_fault Source) (input_of_files-with_exclusions names contents c.in_ok-topology.topology topology
    ∙ c.in_err-once.ensures.domain contents (c.in_ok-topology.ensures.kept ∙ is) no)))

pub returns-in_err-once-clause-only : goal.returns-in_err-once-clause-only
returns-in_err-once-clause-only g c =
    let p = err_from_is_err_and c.from_residual-in_err-once.result c.from_residual-in_err-once.ensures.1 in
    AreFilesReadAsMeant-from_fault (λ read. read.domain) (names_of c.args.without.now)
    (g.F.FileSource.contents c.args.files.now) c.from_residual-in_err-once.result p.0 p.1
    (returns-in_err-once-clause-fault g c)

-- ---- the second reading of files that were read before is refused for nothing in them

-- The lists and the caches were read before from the same contents, so that only the source or memory
-- can fail.
pub returns-in_err-asked-clause-fault : goal.returns-in_err-asked-clause-fault
returns-in_err-asked-clause-fault g c =
    let p = err_from_is_err_and c.from_residual-in_err-asked.result c.from_residual-in_err-asked.ensures.1 in
    let names = names_of c.args.without.now in
    rw (p.1 ∙ ap (λ f. Err f) p.2)
    (IfSome-from_known (IsFirstFault names (Source c.in_err-asked.field-0.0))
    (g.F.FileSource.contents c.args.files.now) (λ contents is no.
    let known = c.in_ok-topology.ensures.kept ∙ is in
    let wants = subst (λ (ws : List LanWantsValue). AreWantsOf c.args.options.all c.args.options.ignored.items
    (files_with_exclusions names contents) c.in_ok-once.once.domain.topology ws) (sym c.deref.ensures.value)
    (c.in_ok-once.ensures.wants contents known) in
    absurd (no (c.in_err-asked.ensures.fault c.args.options.ignored.items
    c.in_ok-once.once.summary.items contents (c.in_ok-once.ensures.kept ∙ known) wants
    (c.in_ok-once.ensures.summary contents known)))))

pub returns-in_err-asked-clause-only : goal.returns-in_err-asked-clause-only
returns-in_err-asked-clause-only g c =
    let p = err_from_is_err_and c.from_residual-in_err-asked.result c.from_residual-in_err-asked.ensures.1 in
    AreFilesReadAsMeant-from_fault (λ read. read.domain) (names_of c.args.without.now)
    (g.F.FileSource.contents c.args.files.now) c.from_residual-in_err-asked.result p.0 p.1
    (returns-in_err-asked-clause-fault g c)

-- ---- all is read

-- The domain consists of what is kept of the input that the files are read as, and that is what they
-- denote.
pub returns-clause-means : goal.returns-clause-means
returns-clause-means g c =
    let names = names_of c.args.without.now in
    let d = c.in_ok-once.once.domain in
    IfSome-from_known (λ files. FilesMeanDomain (files_with_exclusions names files) d)
    (g.F.FileSource.contents c.args.files.now) (λ contents is.
    FilesMeanDomain-from_other_files names contents c.in_ok-topology.topology d
    (c.in_ok-topology.ensures.topology contents is)
    (c.in_ok-once.ensures.domain contents (c.in_ok-topology.ensures.kept ∙ is)) c.in_ok-once.ensures.rules)

-- Files mean one domain at most, and this is one that they mean.
pub returns-clause-only : goal.returns-clause-only
returns-clause-only g c = λ contents domain is means are.
    let names = names_of c.args.without.now in
    let d = c.in_ok-once.once.domain in
    FilesMeanDomain-unique (files_with_exclusions names contents) d domain
    (FilesMeanDomain-from_other_files names contents c.in_ok-topology.topology d
    (c.in_ok-topology.ensures.topology contents is)
    (c.in_ok-once.ensures.domain contents (c.in_ok-topology.ensures.kept ∙ is)) c.in_ok-once.ensures.rules)
    means

-- The check of the names refused none.
pub returns-clause-routers : goal.returns-clause-routers
returns-clause-routers g c =
    let names = names_of c.args.without.now in
    subst (λ (t : TopologyValue). AreRouterNames t names) (sym c.in_ok-once.ensures.topology)
    (AreRouterNames-from_Ok c.in_ok-topology.topology 1 names c.in_ok-check_names.field-0
    (sym c.in_ok-check_names.ensures.names))

-- The source's contents stay the same, so that the summaries of the first reading are still those of
-- the files.
pub returns-clause-summary : goal.returns-clause-summary
returns-clause-summary g c =
    let names = names_of c.args.without.now in
    let once = c.in_ok-once.once in
    IfSome-from_known (λ files. AreSummariesOf c.args.options.all (files_with_exclusions names files)
    once.domain.topology once.summary.items) (g.F.FileSource.contents c.args.files.now) (λ contents is.
    c.in_ok-once.ensures.summary contents (c.in_ok-topology.ensures.kept ∙ is))

-- The second reading is of the same contents as the first, of which the wants and the summaries were
-- kept.
pub returns-clause-asked : goal.returns-clause-asked
returns-clause-asked g c =
    let names = names_of c.args.without.now in
    let all = c.args.options.all in
    let ignored = c.args.options.ignored.items in
    let once = c.in_ok-once.once in
    IfSome-from_known (λ files. IsAskedOf all ignored (files_with_exclusions names files) once.domain
    c.in_ok-asked.asked) (g.F.FileSource.contents c.args.files.now) (λ contents is.
    let known = c.in_ok-topology.ensures.kept ∙ is in
    let wants = subst (λ (ws : List LanWantsValue). AreWantsOf all ignored
    (files_with_exclusions names contents) once.domain.topology ws) (sym c.deref.ensures.value)
    (c.in_ok-once.ensures.wants contents known) in
    c.in_ok-asked.ensures.asked ignored once.summary.items contents (c.in_ok-once.ensures.kept ∙ known) wants
    (c.in_ok-once.ensures.summary contents known))
