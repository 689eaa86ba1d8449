-- What the lines of a flow say of it is true: whether it is right, and else what is found and why.
use Rattle.std.proofs.Common.{◌≡◌, ◌≤◌, ℕ, inl, inr, Bool, true, false, List, [], ◌++◌, length, Option}
use Rattle.std.proofs.Common.{Some, None, refl, sym, ap, subst, ◌∙◌}
use Rattle.std.specs.Prelude.{◌==◌, ◌↔◌, IsTrue, Vec}
use Rattle.std.specs.declared.alloc.Global.{Global}
use Rattle.std.proofs.lemmas.Bool.{false≢true}
use Rattle.mc_theory.specs.Certificates.{IsRight}
use Rattle.mc_theory.specs.Flights.{Flight}
use Rattle.mc_theory.specs.ShownFrom.{EachCompleteRunHasFault, IsShownFrom}
use Rattle.mc_theory.proofs.ShownFrom.{each_complete_run_has_fault}
use Rattle.mc_topology.specs.Topology.{flow_at}
use Rattle.mc_forward.specs.Domains.{DomainValue, IsDomain, net_of, ttl_of}
use Rattle.mc_forward.proofs.DomainLemmas.{is_net-net_of}
use Rattle.mc_forward.specs.ListedTables.{DomainFacts, facts}
use Rattle.mc_cert.specs.Certificate.{Tree}
use Rattle.mc_cert.specs.declared.reached.Reached.{Reached}
use Rattle.mc_explain.specs.BehindFacts.{IsTrueBehind}
use Rattle.mc_explain.specs.declared.causes.behind.Behind.{Behind}
use Rattle.mc_explain.proofs.BehindFactLemmas.{is_true-behind}
use Rattle.mc_shown.specs.WantedText.{lans_wanting}
use Rattle.mc_maker.specs.Examined.{IfFound, is_certified}
use Rattle.mc_maker.specs.declared.examination.Examined.{Examined}
use Rattle.mc_maker.specs.declared.examination.Examined.TheVariants.{Certified, Found}
use Rattle.mc_json_wrong.specs.WrongLine.{wrong_flow_of}
use Rattle.mc_run.specs.FlowCounts.{are_right}
use Rattle.mc_run.specs.AuditObjects.{found_travel}
use Rattle.mc_run.specs.AuditedFiles.{AuditedValue, excluded, is_whole}
use Rattle.mc_run.specs.AuditRun.{IsAudited, IsChecked}
use Rattle.mc_run.specs.AuditClaims.{HasLinesOfEachFlow, SaysFinding, SaysFlowRight, SaysYesOf}
use Rattle.mc_run.specs.AuditClaims.{SaysYesOrFinding, WritesWhichAreRight}
use Rattle.mc_explain.specs.ExplanationValues.{ExplanationValue}
use Rattle.mc_run.specs.AuditText.{events_if_shown, explanation_lines, shown_by_text}
use Rattle.mc_run.specs.AuditFlowText.{answer_lines, right_flow_lines, wrong_lines_or_object}
use Rattle.mc_run.specs.AuditFlowText.{wrong_flow_lines}
use Rattle.mc_run.specs.AuditExplanation.{IsBehindAt255, IsBehindIfStray, IsExplanation, IsShownFromAt255}
use Rattle.mc_run.specs.AuditExplanation.{IsShownFromUnless, is_known_wrong}
use Rattle.mc_search.specs.declared.searching.LanSearch.{LanSearch}
use Rattle.mc_tables.specs.Summary.{SummaryValue}
use Rattle.mc_maker.specs.ExaminedFlights.{HasExaminedFlights, IsFinishedTravelOf, without_flights}
use Rattle.mc_maker.specs.declared.examined_flights.ExaminedFlights.{ExaminedFlights}
use Rattle.mc_maker.specs.declared.examined_flights.ExaminedFlights.TheVariants.{FoundAtTtl255}
use Rattle.mc_maker.specs.declared.examined_flights.ExaminedFlights.TheVariants.{FoundAtFlowTtl}
use Rattle.mc_maker.specs.declared.examined_flights.ExaminedFlights.TheVariants as flights_as
use Rattle.mc_replay.specs.FindingValues.{finding_value}
use Rattle.mc_replay.specs.declared.finding.Finding.{Finding}
use Rattle.mc_replay.specs.declared.finding.Finding.TheVariants.{Clean, Duplicate, Loop, Stray, Missed}
use Rattle.mc_replay.specs.declared.travel.FinishedTravel.{FinishedTravel}
use Rattle.mc_explain.specs.ShownNeed.{IsShownFromIfAny}
use Rattle.mc_replay.specs.declared.travel.Travel.{Travel}
use Rattle.mc_commands.specs.MakeRun.{AreRight}
use Rattle.mc_cli.specs.declared.audit_options.AuditOptions.{AuditOptions}
use Rattle.mc_commands.proofs.MakeLemmas.{are_certified-are_right}
use Rattle.mc_run.proofs.FlowAnswerLemmas.{has_lines-each_answer, are_right-examinations}
use Rattle.mc_run.proofs.FlowAnswerLemmas.{are_examined-answers, examinations_of}

-- ---- which flows are right

-- where the whole domain is known, a flow with a finding is known to be wrong
is_known-whole : (whole known : Bool) (search : Option LanSearch) → known ≡ is_known_wrong whole search
    → whole ≡ true → known ≡ true
is_known-whole true known search same is = same
is_known-whole false known search same is = absurd cc

-- the lines of a flow with a finding start so
wrong_flow_lines-say_finding : (o : AuditOptions) (whole : Bool) (d : DomainFacts)
    (summary : List SummaryValue) (flow ttl : ℕ) (travel : Travel) (e : ExplanationValue) (lines : List ℕ)
    → e.certainty.known ≡ is_known_wrong whole e.search
    → lines ≡ wrong_flow_lines o d summary flow ttl travel e
    → SaysFinding o.json whole d.topology flow lines
wrong_flow_lines-say_finding o whole d summary flow ttl travel e lines known is = by o.json is
  where
    by : (json : Bool) → lines ≡ wrong_lines_or_object json o.travels d summary flow ttl travel e
        → SaysFinding json whole d.topology flow lines
    by true is = (
      wrong_flow_of d summary (found_travel o.travels flow ttl travel) e,
      is_known-whole whole e.certainty.known e.search known,
      is,
    )
    by false is = (
      e.certainty.known,
      travel.finding,
      shown_by_text d.topology (flow_at d.topology flow).ttl e.certainty.shown_by
          ++ (explanation_lines d summary flow e ++ events_if_shown o.travels d.topology travel),
      is_known-whole whole e.certainty.known e.search known,
      is,
    )

-- a flow's lines say whether it is right
says_flow_right-answer_lines : (v : AuditedValue) (o : AuditOptions) (printed : List Tree)
    (flow : ℕ)
    (x : Examined) (e : ExplanationValue) (wanted lines : List ℕ)
    → (IsTrue (is_certified x) ↔ IsRight (net_of v.domain flow))
    → e.certainty.known ≡ is_known_wrong (is_whole v) e.search
    → wanted ≡ lans_wanting (facts v.domain) flow
    → lines ≡ answer_lines o (is_whole v) (facts v.domain) v.summary printed flow x e wanted
    → SaysFlowRight v o flow lines
says_flow_right-answer_lines v o printed flow (Certified entries) e wanted lines right known wants is =
    record {
      right = λ _. (
        printed,
        entries.items,
        is ∙ ap (λ (w : List ℕ).
            right_flow_lines o (is_whole v) (facts v.domain) printed flow entries.items w) wants,
      );
      wrong = λ not. absurd (not (right.0 refl));
    }
says_flow_right-answer_lines v o printed flow (Found ttl travel) e wanted lines right known wants is =
    record {
      right = λ so. absurd (false≢true (right.1 so));
      wrong = λ _. wrong_flow_lines-say_finding o (is_whole v) (facts v.domain) v.summary flow ttl travel
          e lines known is;
    }

-- each flow's lines say whether it is right, and the answer whether all flows are
pub writes_which_are_right-audited : (v : AuditedValue) (o : AuditOptions) (all : Bool) (written : List ℕ)
    → IsAudited v o all written → WritesWhichAreRight v o all written
writes_which_are_right-audited v o all written a =
    let d = v.domain in
    let answers = a.answers in
    let are = a.are_answers in
    record {
      lines = has_lines-each_answer (SaysFlowRight v o) v o all written a
          (λ printed flow b is. says_flow_right-answer_lines v o printed flow b.examined
          is.explanation b.wanted b.lines is.checked.examined.right is.explained.known is.wanted
          is.spelled);
      right = are_right answers;
      are_right = subst (AreRight d) (are_right-examinations answers)
          (are_certified-are_right d (examinations_of answers) (are_examined-answers v o answers are));
      answer = a.answer;
    }

-- ---- what each flow's lines say

-- the lines of a certified flow say yes of it
pub says_yes_of-certified : (v : AuditedValue) (o : AuditOptions) (printed : List Tree) (flow : ℕ)
    (entries : Vec Reached Global) (e : ExplanationValue) (wanted lines : List ℕ)
    → IsChecked v.domain flow (Certified entries) → wanted ≡ lans_wanting (facts v.domain) flow
    → lines ≡ answer_lines o (is_whole v) (facts v.domain) v.summary printed flow (Certified entries) e
    wanted
    → SaysYesOf v o flow lines
says_yes_of-certified v o printed flow entries e wanted lines checked wants is = record {
  tree = entries.items;
  printed = printed;
  right = checked.examined.right.0 refl;
  accepted = checked.examined.accepted;
  headline = checked.headline;
  spelled = is ∙ ap (λ (w : List ℕ).
      right_flow_lines o (is_whole v) (facts v.domain) printed flow entries.items w) wants;
}

-- where a TTL is given from which on packets show the finding, each complete run of such a packet without
-- loss has the fault
shows_from_ttl-by_flights : (d : DomainValue) (flow : ℕ) (x : Examined) (flights : ExaminedFlights)
    (shown : Option ℕ) → IsDomain d → HasExaminedFlights d flow flights
    → x ≡ without_flights d flow flights → IsShownFromAt255 d flow flights shown
    → IfFound (λ ttl travel. (k t : ℕ) → shown ≡ Some k → k ≤ t
    → EachCompleteRunHasFault (net_of d flow) t (finding_value travel.finding)) x
shows_from_ttl-by_flights d flow x flights shown ok has same is =
    subst (λ (y : Examined). IfFound (λ ttl travel. (k t : ℕ) → shown ≡ Some k → k ≤ t
    → EachCompleteRunHasFault (net_of d flow) t (finding_value travel.finding)) y) (sym same)
    (by flights has is)
  where
    above : (greatest : Bool) (ended : FinishedTravel) (k t : ℕ) → IsFinishedTravelOf d flow 255 ended
        → IsShownFromUnless greatest (net_of d flow) ended.flight.flight.carried
        (finding_value ended.travel.finding) shown → shown ≡ Some k → k ≤ t
        → EachCompleteRunHasFault (net_of d flow) t (finding_value ended.travel.finding)
    above true ended k t has is some le =
        absurd (let both : ◌≡◌ {A = Option ℕ} None (Some k) = sym is ∙ some in cc)
    above false ended k t has is some le =
        let n = net_of d flow in
        let x = finding_value ended.travel.finding in
        let shown = subst (IsShownFromIfAny n ended.flight.flight.carried x) some is in
        each_complete_run_has_fault n (length d.topology.lans) 255 t k [] false has.run.picks x x
        (is_net-net_of d flow ok) has.run.travel
        (subst (λ (f : Flight). IsShownFrom n f.carried x k) has.run.ends shown) le

    by : (w : ExaminedFlights) → HasExaminedFlights d flow w → IsShownFromAt255 d flow w shown
        → IfFound (λ ttl travel. (k t : ℕ) → shown ≡ Some k → k ≤ t
        → EachCompleteRunHasFault (net_of d flow) t (finding_value travel.finding)) (without_flights d flow w)
    by (flights_as.Certified entries) has is = tt
    by (FoundAtTtl255 ended) has is = λ k t some le. above (ttl_of d flow == 255) ended k t has is some le
    by (FoundAtFlowTtl greatest least) has is = λ k t some le.
        absurd (let both : ◌≡◌ {A = Option ℕ} None (Some k) = sym is ∙ some in cc)

-- what isn't there isn't something
none_is_not_some : (o : Option Behind) (b : Behind) → o ≡ None → o ≡ Some b → ⊥
none_is_not_some None b none some = absurd cc
none_is_not_some (Some a) b none some = absurd cc

-- what is behind a stray is true of a run of the flow
is_true-behind_if_stray : (whole : Bool) (d : DomainValue) (flow : ℕ) (x : Finding) (behind : Option Behind)
    → IsDomain d → IsBehindIfStray whole d flow x behind → (b : Behind) → behind ≡ Some b
    → IsTrueBehind d flow b
is_true-behind_if_stray whole d flow Clean behind ok is b some = absurd (none_is_not_some behind b is some)
is_true-behind_if_stray whole d flow (Duplicate lan) behind ok is b some =
    absurd (none_is_not_some behind b is some)
is_true-behind_if_stray whole d flow (Loop lan) behind ok is b some =
    absurd (none_is_not_some behind b is some)
is_true-behind_if_stray whole d flow (Missed lan) behind ok is b some =
    absurd (none_is_not_some behind b is some)
is_true-behind_if_stray whole d flow (Stray router vif) None ok is b some = absurd is
is_true-behind_if_stray whole d flow (Stray router vif) (Some a) ok is b some =
    is_true-behind whole d flow (router, vif) b ok
    (subst (λ (o : Option Behind). IsBehindIfStray whole d flow (Stray router vif) o) some is)

-- what an examination found behind a stray is true of a run of the flow
is_true-behind_at_255 : (whole : Bool) (d : DomainValue) (flow : ℕ) (flights : ExaminedFlights)
    (behind : Option Behind) → IsDomain d → IsBehindAt255 whole d flow flights behind → (b : Behind)
    → behind ≡ Some b → IsTrueBehind d flow b
is_true-behind_at_255 whole d flow (flights_as.Certified entries) behind ok is b some =
    absurd (none_is_not_some behind b is some)
is_true-behind_at_255 whole d flow (FoundAtTtl255 ended) behind ok is b some =
    is_true-behind_if_stray whole d flow ended.travel.finding behind ok is b some
is_true-behind_at_255 whole d flow (FoundAtFlowTtl greatest least) behind ok is b some =
    absurd (none_is_not_some behind b is some)

-- a flow's lines say yes, or what is found
says_yes_or_found-answer_lines : (v : AuditedValue) (o : AuditOptions) (printed : List Tree)
    (flow : ℕ) (x : Examined)
    (flights : ExaminedFlights) (e : ExplanationValue) (wanted lines : List ℕ) → IsDomain v.domain
    → HasExaminedFlights v.domain flow flights → x ≡ without_flights v.domain flow flights
    → IsChecked v.domain flow x → IsExplanation v.domain v.summary (excluded v) (is_whole v) flow flights e
    → wanted ≡ lans_wanting (facts v.domain) flow
    → lines ≡ answer_lines o (is_whole v) (facts v.domain) v.summary printed flow x e wanted
    → SaysYesOrFinding v o flow lines
says_yes_or_found-answer_lines v o printed flow (Certified entries) flights e wanted lines ok
    has_flights same checked explained wants is =
    inl (says_yes_of-certified v o printed flow entries e wanted lines checked wants is)
says_yes_or_found-answer_lines v o printed flow (Found ttl travel) flights e wanted lines ok
    has_flights same checked explained wants is =
    inr (record {
      ttl = ttl;
      travel = travel;
      flights = flights;
      explanation = e;
      wrong = λ so. false≢true (checked.examined.right.1 so);
      runs = checked.examined.travel;
      fault = checked.examined.fault;
      ttl_shown = checked.examined.ttl;
      has_flights = has_flights;
      explained = explained;
      shown = shows_from_ttl-by_flights v.domain flow (Found ttl travel) flights e.certainty.shown_by.from ok
          has_flights same explained.shown.from;
      behind = is_true-behind_at_255 (is_whole v) v.domain flow flights e.behind ok explained.behind;
      spelled = is;
    })

-- a yes for which the headline holds, or the finding of a run of its net
pub yes_or_finding-audited : (v : AuditedValue) (o : AuditOptions) (all : Bool) (written : List ℕ)
    → IsDomain v.domain → IsAudited v o all written
    → HasLinesOfEachFlow v o.json all (SaysYesOrFinding v o) written
yes_or_finding-audited v o all written ok a =
    has_lines-each_answer (SaysYesOrFinding v o) v o all written a
    (λ printed flow b is. says_yes_or_found-answer_lines v o printed flow b.examined is.flights
    is.explanation b.wanted b.lines ok is.has_flights is.examined is.checked is.explained is.wanted
    is.spelled)
