use Rattle.std.proofs.Common.{◌≡◌, ◌∙◌, ℕ, Bool, List, ap, inr, length, option_map, refl, subst, sym}
use Rattle.std.proofs.lemmas.Result.{err_from_is_err_and}
use Rattle.mc_topology.specs.Topology.{TopologyValue}
use Rattle.mc_files.specs.Files.{FileText}
use Rattle.mc_forward.specs.Domains.{DomainValue}
use Rattle.mc_forward.specs.ListedTables.{Pairwise, flow_pairs}
use Rattle.mc_asked.specs.Answers.{AnswersValue, source_pairs}
use Rattle.mc_asked.specs.AskedLines.{lan_wants_from}
use Rattle.mc_asked.specs.LanWants.{LanWantsValue}
use Rattle.mc_asked.proofs.LanByLanLemmas.{length-lan_wants_from}
use Rattle.mc_input.specs.ExcludedRouters.{files_without}
use Rattle.mc_input.specs.Kept.{IsDomainOf}
use Rattle.mc_input.specs.ListsOfFiles.{AreWantsOf, answers_of}
use Rattle.mc_input.specs.PartsOneByOne.{certificate_number}
use Rattle.mc_input.specs.Stream.{files_give, input_of_contents, value_and_rest}
use Rattle.mc_input.specs.SummariesOfFiles.{AreSummariesOf, IsSummaryOfRead}
use Rattle.mc_input.proofs.FolderLemmas.{AreSummariesOf-from_contents, files_give-Ok}
use Rattle.mc_input.proofs.FolderLemmas.{read_tables_and_reports-contents_Err}
use Rattle.mc_input.proofs.FolderLemmas.{read_tables_and_reports-from_contents}
use Rattle.mc_input.proofs.ListsOfFilesLemmas.{AreListsOf-from_contents}
use Rattle.mc_input.proofs.files_once.read_files_once.Goals as goal

-- The walk over the slots gives the first fault of the files after the topology's.
pub returns-in_err-kept-clause-domain : goal.returns-in_err-kept-clause-domain
returns-in_err-kept-clause-domain g c = λ contents is.
    let p = err_from_is_err_and c.from_residual-in_err-kept.result c.from_residual-in_err-kept.ensures.1 in
    let t = c.args.topology in
    let seen = files_without c.args.without.now in
    rw (p.1, p.2) (λ loud.
    read_tables_and_reports-contents_Err (seen contents) t c.in_err-kept.field-0.0
    (c.in_err-kept.ensures.fault (files_give t 1 (seen contents))
    (ap (option_map (λ (files : List FileText). files_give t 1 (seen files))) is) loud))

-- The walk reads the folder's files in the order of the slots, and the domain consists of what is kept
-- of them.
pub returns-clause-domain : goal.returns-clause-domain
returns-clause-domain g c = λ contents is.
    let t = c.args.topology in
    let seen = files_without c.args.without.now in
    let x = c.in_ok-kept.ensures.read (files_give t 1 (seen contents))
    (ap (option_map (λ (files : List FileText). files_give t 1 (seen files))) is) in
    let rest = files_give-Ok t (certificate_number t)
    (files_without c.read_contents-read.new.slots.without.now) contents
    (g.F.FileSource.contents c.read_contents-read.new.slots.files.now)
    x.0 (c.in_ok-kept.ensures.advances.1 ∙ is) x.2 in (
      input_of_contents t x.1,
      read_tables_and_reports-from_contents (seen contents) t x.1 rest.0
          (x.6 ∙ ap (value_and_rest x.1) rest.1),
      subst (λ (d : DomainValue). IsDomainOf d (input_of_contents t x.1))
          (sym c.in_ok-domain.ensures.domain) x.3,
    )

-- The walk kept the summary of each cache that it read, and that is read from the router's file.
pub returns-clause-summary : goal.returns-clause-summary
returns-clause-summary g c = λ contents is.
    let t = c.args.topology in
    let seen = files_without c.args.without.now in
    let x = c.in_ok-kept.ensures.read (files_give t 1 (seen contents))
    (ap (option_map (λ (files : List FileText). files_give t 1 (seen files))) is) in
    let rest = files_give-Ok t (certificate_number t)
    (files_without c.read_contents-read.new.slots.without.now) contents
    (g.F.FileSource.contents c.read_contents-read.new.slots.files.now)
    x.0 (c.in_ok-kept.ensures.advances.1 ∙ is) x.2 in
    subst (λ (own : TopologyValue). AreSummariesOf c.args.options.all (seen contents) own
    c.read_contents-read.new.keeper.summary.items)
    (sym (ap (λ (d : DomainValue). d.topology) c.in_ok-domain.ensures.domain))
    (AreSummariesOf-from_contents (seen contents) c.args.options.all t
    x.1 rest.0 c.read_contents-read.new.keeper.summary.items
    (x.6 ∙ ap (value_and_rest x.1) rest.1)
    (subst (λ (all : Bool). Pairwise (IsSummaryOfRead all (flow_pairs t.flows)) x.1.0
    c.read_contents-read.new.keeper.summary.items)
    (ap (λ (p : List (ℕ × ℕ) × Bool). p.1) c.in_ok-kept.ensures.settings) x.4))

-- The walk kept of each list the wants that no flow answers, by the flows and the sources of this
-- topology.
pub returns-clause-wants : goal.returns-clause-wants
returns-clause-wants g c = λ contents is.
    let t = c.args.topology in
    let ignored = c.args.options.ignored.items in
    let seen = files_without c.args.without.now in
    let x = c.in_ok-kept.ensures.read (files_give t 1 (seen contents))
    (ap (option_map (λ (files : List FileText). files_give t 1 (seen files))) is) in
    let rest = files_give-Ok t (certificate_number t)
    (files_without c.read_contents-read.new.slots.without.now) contents
    (g.F.FileSource.contents c.read_contents-read.new.slots.files.now)
    x.0 (c.in_ok-kept.ensures.advances.1 ∙ is) x.2 in
    let answers : c.in_ok-answers.answers ≡ answers_of t ignored =
    c.in_ok-answers.ensures
    ∙ ap (λ (flows : List (ℕ × ℕ)). let a : AnswersValue = record {
      flows = flows;
      sources = source_pairs t.sources;
      ignored = ignored;
    } in a) c.in_ok-flows.ensures in
    let settings : (c.read_contents-read.new.list_keeper.all, c.read_contents-read.new.list_keeper.answers)
    ≡ (c.args.options.all, answers_of t ignored) =
    c.in_ok-kept.ensures.list_settings ∙ ap (λ (a : AnswersValue). (c.args.options.all, a)) answers in
    subst (λ (own : TopologyValue). AreWantsOf c.args.options.all ignored (seen contents) own
    c.read_contents-read.new.list_keeper.wants.items)
    (sym (ap (λ (d : DomainValue). d.topology) c.in_ok-domain.ensures.domain))
    record {
      lists = x.1.1;
      of = AreListsOf-from_contents (seen contents) t x.1 rest.0 (x.6 ∙ ap (value_and_rest x.1) rest.1);
      kept = x.5 ∙ ap (λ (s : Bool × AnswersValue). lan_wants_from s.0 s.1 0 x.1.1) settings;
    }

-- Putting the domain together fails only where memory runs out.
pub returns-in_err-domain-clause-domain : goal.returns-in_err-domain-clause-domain
returns-in_err-domain-clause-domain g c = λ contents is.
    let p = err_from_is_err_and c.from_residual-in_err-domain.result
    c.from_residual-in_err-domain.ensures.1 in
    rw (p.1, p.2) (λ loud. absurd (loud (inr refl)))

-- Something was kept for the list of each LAN.
pub returns-clause-count : goal.returns-clause-count
returns-clause-count g c =
    let own = c.read_contents-read.new.list_keeper in
    let kept = c.in_ok-kept.ensures.lists in
    ap (λ (wants : List LanWantsValue). length wants) kept.2
    ∙ length-lan_wants_from own.all own.answers 0 kept.0 ∙ kept.1
    ∙ sym (ap (λ (d : DomainValue). length d.topology.lans) c.in_ok-domain.ensures.domain)
