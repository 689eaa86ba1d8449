-- A fault that an audit finds with excluded routers is one in the whole domain too.
use Rattle.std.proofs.Common.{◌≡◌, ◌≤◌, ◌<◌, ℕ, inl, inr, Bool, false, List, [], length, arith, Option}
use Rattle.std.proofs.Common.{Result, subst, sym}
use Rattle.mc_files.specs.Files.{FileText}
use Rattle.mc_theory.specs.ExcludedRouters.{IsSecondCopyOrStray}
use Rattle.mc_theory.specs.Certificates.{IsRight}
use Rattle.mc_theory.proofs.ExcludedRouters.{not_right-from_unclean_travel}
use Rattle.mc_forward.specs.Domains.{DomainValue, IsDomain, net_of, ttl_of}
use Rattle.mc_forward.specs.ListedTables.{facts}
use Rattle.mc_forward.proofs.DomainLemmas.{ttl-at_most_255}
use Rattle.mc_cert.specs.Certificate.{Tree}
use Rattle.mc_replay.specs.FindingValues.{finding_value}
use Rattle.mc_replay.specs.declared.travel.Travel.{Travel}
use Rattle.mc_maker.specs.Examined.{IfFound, IsFirstPickTravel}
use Rattle.mc_maker.specs.ExaminedFlights.{without_flights}
use Rattle.mc_maker.specs.declared.examination.Examined.{Examined}
use Rattle.mc_maker.specs.declared.examination.Examined.TheVariants as examined
use Rattle.mc_maker.specs.declared.examined_flights.ExaminedFlights.{ExaminedFlights}
use Rattle.mc_maker.specs.declared.examined_flights.ExaminedFlights.TheVariants.{Certified, FoundAtTtl255}
use Rattle.mc_maker.specs.declared.examined_flights.ExaminedFlights.TheVariants.{FoundAtFlowTtl}
use Rattle.mc_shown.specs.WantedText.{lans_wanting}
use Rattle.mc_input.specs.ExcludedRouters.{is_excluded}
use Rattle.mc_input.specs.Meaning.{FilesMeanDomain}
use Rattle.mc_input.proofs.ExcludedPerFlowLemmas.{ExcludesRouters-from_files}
use Rattle.mc_run.specs.FlowCounts.{FlowAnswer}
use Rattle.mc_run.specs.AuditedFiles.{AuditedValue, LeftOutValue, MeansAudited, is_whole}
use Rattle.mc_run.specs.AuditRun.{IsAuditText, IsAudited, IsChecked, IsFlowAnswer}
use Rattle.mc_run.specs.AuditClaims.{HasLinesOfEachFlow}
use Rattle.mc_run.specs.AuditExclusions.{AreFoundInWhole, SaysYesOrFoundInWhole}
use Rattle.mc_explain.specs.ExplanationValues.{ExplanationValue}
use Rattle.mc_run.specs.AuditFlowText.{answer_lines}
use Rattle.mc_cli.specs.declared.audit_options.AuditOptions.{AuditOptions}
use Rattle.mc_commands.specs.declared.fault.RunFault.{RunFault}
use Rattle.mc_commands.specs.declared.run_output.RunOutput.{RunOutput}
use Rattle.mc_run.proofs.FlowPushedLemmas.{is_first_pick_travel-of_examined}
use Rattle.mc_run.proofs.FlowAnswerLemmas.{has_lines-each_answer}
use Rattle.mc_run.proofs.FlowClaimLemmas.{says_yes_of-certified}
use Rattle.mc_commands.proofs.RunLemmas.{IsOutputOf, is_output_of-implication}

-- a fault is found at the flow's TTL or at 255
found_ttl-flow_ttl_or_255 : (d : DomainValue) (flow : ℕ) (x : ExaminedFlights) → IsDomain d
    → flow < length d.topology.flows
    → IfFound (λ ttl travel. (ttl_of d flow ≤ ttl) × (ttl ≤ 255)) (without_flights d flow x)
found_ttl-flow_ttl_or_255 d flow (Certified entries) ok lt = tt
found_ttl-flow_ttl_or_255 d flow (FoundAtTtl255 ended) ok lt = (ttl-at_most_255 d flow ok lt, omega arith)
found_ttl-flow_ttl_or_255 d flow (FoundAtFlowTtl greatest least) ok lt =
    (omega arith, ttl-at_most_255 d flow ok lt)

-- a second copy or a stray that is found without the excluded routers is a fault of the whole domain, since
-- their tables only add copies
not_right-whole_domain : (o : AuditOptions) (left : LeftOutValue) (files : List FileText) (v : AuditedValue)
    (flow ttl : ℕ) (travel : Travel) → MeansAudited o left files v → ttl_of v.domain flow ≤ ttl
    → ttl ≤ 255 → IsFirstPickTravel v.domain flow ttl travel
    → IsSecondCopyOrStray (finding_value travel.finding)
    → (whole : DomainValue) → FilesMeanDomain files whole → IsRight (net_of whole flow) → ⊥
not_right-whole_domain o left files v flow ttl travel audited low high runs unclean whole means =
    not_right-from_unclean_travel (is_excluded whole.topology left.routers) (net_of v.domain flow)
    (net_of whole flow)
    (length v.domain.topology.lans) ttl [] false runs.1.picks (finding_value travel.finding)
    (ExcludesRouters-from_files left.routers files v.domain whole audited.means means flow) low high
    runs.1.travel unclean

-- a flow's lines say yes, or what is found in the whole domain
is_found_in_whole-answer_lines : (o : AuditOptions) (left : LeftOutValue) (files : List FileText)
    (v : AuditedValue)
    (printed : List Tree) (flow : ℕ) (x : Examined) (e : ExplanationValue) (wanted lines : List ℕ)
    → MeansAudited o left files v → IsChecked v.domain flow x
    → IfFound (IsFirstPickTravel v.domain flow) x
    → IfFound (λ ttl travel. (ttl_of v.domain flow ≤ ttl) × (ttl ≤ 255)) x
    → wanted ≡ lans_wanting (facts v.domain) flow
    → lines ≡ answer_lines o (is_whole v) (facts v.domain) v.summary printed flow x e wanted
    → SaysYesOrFoundInWhole v o files flow lines
is_found_in_whole-answer_lines o left files v printed flow (examined.Certified entries) e wanted
    lines audited checked
    runs within wants is = inl (says_yes_of-certified v o printed flow entries e wanted lines
    checked wants is)
is_found_in_whole-answer_lines o left files v printed flow (examined.Found ttl travel) e wanted
    lines audited checked
    runs within wants is = inr (record {
      ttl = ttl;
      travel = travel;
      explanation = e;
      least = within.0;
      greatest = within.1;
      runs = runs;
      spelled = is;
      wrong = not_right-whole_domain o left files v flow ttl travel audited within.0 within.1 runs;
    })

-- the lines of a flow's answer say yes, or give a finding that is one of the whole domain
is_found_in_whole-flow_answer : (o : AuditOptions) (left : LeftOutValue) (files : List FileText)
    (v : AuditedValue)
    (printed : List Tree) (flow : ℕ) (a : FlowAnswer) → MeansAudited o left files v
    → (is : IsFlowAnswer v o printed flow a)
    → SaysYesOrFoundInWhole v o files flow a.lines
is_found_in_whole-flow_answer o left files v printed flow a audited is =
    let runs = subst (λ (x : Examined). IfFound (IsFirstPickTravel v.domain flow) x) (sym is.examined)
    (is_first_pick_travel-of_examined v.domain flow is.flights is.has_flights) in
    let within = subst (λ (x : Examined).
    IfFound (λ ttl travel. (ttl_of v.domain flow ≤ ttl) × (ttl ≤ 255)) x) (sym is.examined)
    (found_ttl-flow_ttl_or_255 v.domain flow is.flights audited.means.rules is.listed) in
    is_found_in_whole-answer_lines o left files v printed flow a.examined is.explanation
    a.wanted a.lines audited is.checked runs within is.wanted is.spelled

-- the text of an audit has such lines of each flow
yes_or_found_in_whole-audited : (o : AuditOptions) (left : LeftOutValue) (files : List FileText)
    (v : AuditedValue) (all : Bool) (written : List ℕ)
    → MeansAudited o left files v → IsAudited v o all written
    → HasLinesOfEachFlow v o.json all (SaysYesOrFoundInWhole v o files) written
yes_or_found_in_whole-audited o left files v all written means a =
    has_lines-each_answer (SaysYesOrFoundInWhole v o files) v o all written a
    (λ printed flow b is. is_found_in_whole-flow_answer o left files v printed flow b means is)

-- the output of an audit gives findings of the whole domain, since each text of an audit does
pub is_output_of-found_in_whole : (contents : Option (List FileText)) (o : AuditOptions)
    (left : LeftOutValue)
    (s : Result RunOutput RunFault) → IsOutputOf contents (IsAuditText o left) s
    → IsOutputOf contents (AreFoundInWhole o left) s
is_output_of-found_in_whole contents o left s =
    is_output_of-implication contents (IsAuditText o left) (AreFoundInWhole o left) s
    (λ files all written is. record {
      domain = is.domain;
      means = is.means;
      holds = yes_or_found_in_whole-audited o left files is.domain all written is.means is.holds;
    })
