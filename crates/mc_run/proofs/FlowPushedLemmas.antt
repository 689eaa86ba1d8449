-- The lines of one flow that are appended are those of its answer.
use Rattle.std.proofs.Common.{◌≡◌, ℕ, ◌+◌, ◌<◌, Bool, true, false, List, [], ◌++◌, Global, Vec, length}
use Rattle.std.proofs.Common.{Option, None, Result, Ok, Err, refl, sym, ap, subst, ◌∙◌}
use Rattle.std.specs.Prelude.{IfOk, OnOk}
use Rattle.std.specs.Result.{IsOkAnd}
use Rattle.std.proofs.lemmas.Bool.{false≢true}
use Rattle.mc_theory.specs.Certificates.{Entry, IsAccepted}
use Rattle.mc_theory.specs.Headline.{HeadlineHolds}
use Rattle.mc_theory.specs.Nets.{Net}
use Rattle.mc_check.specs.Verdicts.{YesCountsEntries, YesIffAccepted, YesKeepsHeadline}
use Rattle.mc_check.specs.declared.verdict.Verdict.{Verdict}
use Rattle.mc_check.specs.declared.verdict.Verdict.TheVariants.{Yes, No}
use Rattle.mc_forward.specs.Domains.{DomainValue, net_of, ttl_of}
use Rattle.mc_forward.specs.FlightsInDomain.{FlowOfDomain, net_in}
use Rattle.mc_forward.specs.ListedTables.{facts}
use Rattle.mc_cert.specs.declared.reached.Reached.{Reached}
use Rattle.mc_cert.specs.Certificate.{Tree}
use Rattle.mc_maker.specs.Examined.{IfFound, IsFirstPickTravel}
use Rattle.mc_maker.specs.ExaminedFlights.{HasExaminedFlights, without_flights}
use Rattle.mc_maker.specs.declared.examined_flights.ExaminedFlights.{ExaminedFlights}
use Rattle.mc_maker.specs.declared.examined_flights.ExaminedFlights.TheVariants.{Certified, FoundAtTtl255}
use Rattle.mc_maker.specs.declared.examined_flights.ExaminedFlights.TheVariants.{FoundAtFlowTtl}
use Rattle.mc_maker.specs.declared.examination.Examined.{Examined}
use Rattle.mc_maker.specs.declared.examination.Examined.TheVariants as examined
use Rattle.mc_replay.specs.declared.travel.FinishedTravel.{FinishedTravel}
use Rattle.mc_replay.specs.declared.travel.Travel.{Travel}
use Rattle.mc_shown.specs.WantedText.{lans_wanting}
use Rattle.mc_search.specs.declared.searching.LanSearch.{LanSearch}
use Rattle.mc_explain.specs.declared.causes.Cause.{Cause}
use Rattle.mc_explain.specs.declared.causes.behind.Behind.{Behind}
use Rattle.mc_explain.specs.declared.causes.explanation.ShownBy.{ShownBy}
use Rattle.mc_json.specs.TreeKey.{tree_key}
use Rattle.mc_run.specs.FlowCounts.{count}
use Rattle.mc_run.specs.AuditPieces.{IsFlowPushed, explanation_in}
use Rattle.mc_run.specs.AuditExplanation.{IsExplanation, is_known_wrong, without_remedies}
use Rattle.mc_run.specs.AuditedFiles.{AuditedValue, excluded, is_whole}
use Rattle.mc_explain.specs.ExplanationValues.{ExplanationValue}
use Rattle.mc_run.proofs.ExplanationLemmas.{unsaid}
use Rattle.mc_run.specs.AuditFlowText.{is_hidden, known_right, right_flow_lines, status_of_right}
use Rattle.mc_run.specs.AuditFlowText.{status_of_wrong, with_shown_tree, wrong_flow_lines}
use Rattle.mc_commands.specs.MakeRun.{IsExamined}
use Rattle.mc_cli.specs.declared.audit_options.AuditOptions.{AuditOptions}
use Rattle.mc_run.specs.declared.audit.flow_status.FlowStatus.{FlowStatus}

-- the checker says yes to a list that is accepted, with the number of its entries
pub verdict_yes-accepted_list : {X : Type 0} (n : Net) (es : List Entry) (answer : Result Verdict X)
    → IfOk answer (YesIffAccepted n es) → IfOk answer (YesCountsEntries n es) → IsAccepted n es
    → IfOk answer (λ verdict. verdict ≡ Yes (length es))
verdict_yes-accepted_list n es (Err e) exact copies accepted = tt
verdict_yes-accepted_list n es (Ok (No reason)) exact copies accepted = absurd (false≢true (exact.1 accepted))
verdict_yes-accepted_list n es (Ok (Yes count)) exact copies accepted = ap Yes copies

-- a yes of the checker carries the headline, with the number of entries as the number of copies
pub headline_holds-verdict_yes : {X Y A : Type 0} (n : Net) (es : List Entry) (answer : Result Verdict X)
    (r : Result A Y) → IfOk answer (YesKeepsHeadline n es)
    → OnOk r (IsOkAnd answer (λ verdict. verdict ≡ Yes (length es)))
    → OnOk r (HeadlineHolds n (length es))
headline_holds-verdict_yes n es answer (Err e) keeps is = tt
headline_holds-verdict_yes n es (Err e) (Ok s) keeps is = absurd is
headline_holds-verdict_yes n es (Ok v) (Ok s) keeps is =
    subst (λ (w : Verdict). YesKeepsHeadline n es w) is keeps

-- the finding is that of the travel whose flights are given
pub is_first_pick_travel-of_examined : (d : DomainValue) (flow : ℕ) (x : ExaminedFlights)
    → HasExaminedFlights d flow x
    → IfFound (IsFirstPickTravel d flow) (without_flights d flow x)
is_first_pick_travel-of_examined d flow (Certified entries) is = tt
is_first_pick_travel-of_examined d flow (FoundAtTtl255 ended) is = (ended.flight.flight, is.run)
is_first_pick_travel-of_examined d flow (FoundAtFlowTtl greatest least) is = (least.flight.flight, is.2.run)

-- a flow without a finding has no explanation
abbrev explanation-none : ExplanationValue
explanation-none = record {
  printed = [];
  search = None;
  also = [];
  behind = None;
  certainty = record { known = true; shown_by = unsaid };
}

-- no causes are none without remedies too
is_explanation-certified : (whole : Bool) → [] ≡ without_remedies whole []
is_explanation-certified true = refl
is_explanation-certified false = refl

-- without a search a fault is known
is_known_wrong-no_search : (whole : Bool) → true ≡ is_known_wrong whole None
is_known_wrong-no_search true = refl
is_known_wrong-no_search false = refl

-- the flow's list was accepted,
pub is_flow_pushed-right : {X : Type 0} (v : AuditedValue) (o : AuditOptions) (flow : ℕ)
    (r : Result FlowStatus X)
    (x : ExaminedFlights) (entries : Vec Reached Global) (seen : Tree) (printed new_printed : List Tree)
    (old new : List ℕ) → flow < length v.domain.topology.flows → HasExaminedFlights v.domain flow x
    → IsExamined v.domain flow (without_flights v.domain flow x) → x ≡ Certified entries
    → seen ≡ entries.items
    → OnOk r (HeadlineHolds (net_of v.domain flow) (length seen))
    → IfOk r (λ s. s ≡ status_of_right (is_whole v) (lans_wanting (facts v.domain) flow))
    → OnOk r (new_printed ≡ with_shown_tree o.json (is_hidden o.faults
    (lans_wanting (facts v.domain) flow)) printed (tree_key (net_of v.domain flow) seen))
    → OnOk r (new ≡ old ++ right_flow_lines o (is_whole v) (facts v.domain) printed flow seen
    (lans_wanting (facts v.domain) flow))
    → IfOk r (λ s. IsFlowPushed v o flow s printed new_printed old new)
is_flow_pushed-right v o flow (Err e) x entries seen printed new_printed old new lt has_flights is
    same list holds matches
    shown_trees puts = tt
is_flow_pushed-right v o flow (Ok s) x entries seen printed new_printed old new lt has_flights is
    same list holds matches
    shown_trees puts =
    let n = net_of v.domain flow in
    let wanted = lans_wanting (facts v.domain) flow in
    let certified : Examined = examined.Certified entries in
    let so : without_flights v.domain flow x ≡ certified = ap (without_flights v.domain flow) same in
    let lines = right_flow_lines o (is_whole v) (facts v.domain) printed flow entries.items wanted in
    record {
      answer = record {
        net = n;
        examined = certified;
        right = known_right (is_whole v) certified true;
        wanted = wanted;
        lines = lines;
      };
      is = record {
        flights = x;
        explanation = explanation-none;
        listed = lt;
        net = refl;
        has_flights = has_flights;
        examined = sym so;
        checked = record {
          examined = subst (λ (y : Examined). IsExamined v.domain flow y) so is;
          headline = subst (λ (es : Tree). HeadlineHolds n (length es)) list holds;
        };
        explained = subst (λ (y : ExaminedFlights).
            IsExplanation v.domain v.summary (excluded v) (is_whole v) flow y explanation-none)
            (sym same) (record {
              printed = record { all = []; explained = refl; shown = is_explanation-certified (is_whole v) };
              search = refl;
              also = refl;
              behind = refl;
              known = is_known_wrong-no_search (is_whole v);
              shown = record { from = refl; below = refl };
            });
        right = refl;
        wanted = refl;
        spelled = refl;
      };
      matches = matches;
      shown_trees = shown_trees ∙ ap (λ (es : Tree).
          with_shown_tree o.json (is_hidden o.faults wanted) printed (tree_key n es)) list;
      spelled = puts ∙ ap (λ (es : Tree). old
          ++ right_flow_lines o (is_whole v) (facts v.domain) printed flow es wanted) list;
    }

-- or a fault was found, by a travel with this explanation
pub is_flow_pushed-wrong : (v : AuditedValue) (o : AuditOptions) (flow : ℕ) (x : ExaminedFlights) (ttl : ℕ)
    (travel : Travel) (e : ExplanationValue) (old new : List ℕ)
    → flow < length v.domain.topology.flows → HasExaminedFlights v.domain flow x
    → IsExamined v.domain flow (without_flights v.domain flow x)
    → without_flights v.domain flow x ≡ examined.Found ttl travel
    → IsExplanation v.domain v.summary (excluded v) (is_whole v) flow x e
    → new ≡ old ++ wrong_flow_lines o (facts v.domain) v.summary flow ttl travel e
    → (shown_trees : List Tree)
    → IsFlowPushed v o flow (status_of_wrong e.certainty.known) shown_trees shown_trees old new
is_flow_pushed-wrong v o flow x ttl travel e old new lt has_flights is so explained puts shown_trees =
    let is_found : Examined = examined.Found ttl travel in
    let same : without_flights v.domain flow x ≡ is_found = so in
    record {
      answer = record {
        net = net_of v.domain flow;
        examined = is_found;
        right = known_right (is_whole v) is_found e.certainty.known;
        wanted = lans_wanting (facts v.domain) flow;
        lines = wrong_flow_lines o (facts v.domain) v.summary flow ttl travel e;
      };
      is = record {
        flights = x;
        explanation = e;
        listed = lt;
        net = refl;
        has_flights = has_flights;
        examined = sym same;
        checked = record {
          examined = subst (λ (y : Examined). IsExamined v.domain flow y) same is;
          headline = tt;
        };
        explained = explained;
        right = refl;
        wanted = refl;
        spelled = refl;
      };
      matches = refl;
      shown_trees = refl;
      spelled = puts;
    }

-- lines that were written for causes in one form are written for them in the other
pub wrong_flow_lines-same_causes : (v : AuditedValue) (o : AuditOptions) (flow ttl : ℕ)
    (ended : FinishedTravel) (seen printed : List Cause) (found : Option LanSearch)
    (behind : Option Behind) (shown_by : ShownBy)
    (old new : List ℕ) → seen ≡ printed
    → new ≡ old ++ wrong_flow_lines o (facts v.domain) v.summary flow ttl ended.travel
    (explanation_in (is_whole v) ended seen found behind shown_by)
    → new ≡ old ++ wrong_flow_lines o (facts v.domain) v.summary flow ttl ended.travel
    (explanation_in (is_whole v) ended printed found behind shown_by)
wrong_flow_lines-same_causes v o flow ttl ended seen printed found behind shown_by old new same puts =
    puts ∙ ap (λ (ts : List Cause). old ++ wrong_flow_lines o (facts v.domain) v.summary flow ttl
    ended.travel (explanation_in (is_whole v) ended ts found behind shown_by)) same

-- the lines that were appended for one status were appended for an equal one, which is the one that was
-- returned
pub is_flow_pushed-status : {X : Type 0} (v : AuditedValue) (o : AuditOptions) (flow : ℕ)
    (r : Result FlowStatus X) (status : FlowStatus) (old new : List ℕ) → IfOk r (λ s. s ≡ status)
    → OnOk r ((shown_trees : List Tree) → IsFlowPushed v o flow status shown_trees shown_trees old new)
    → IfOk r (λ s. (shown_trees : List Tree) → IsFlowPushed v o flow s shown_trees shown_trees old new)
is_flow_pushed-status v o flow (Err e) status old new same is = tt
is_flow_pushed-status v o flow (Ok s) status old new same is = λ shown_trees.
    subst (λ (t : FlowStatus). IsFlowPushed v o flow t shown_trees shown_trees old new) (sym same)
    (is shown_trees)

-- if lines were appended at all, they are those of the finding
pub is_flow_pushed-added : {X : Type 0} (v : AuditedValue) (o : AuditOptions) (flow : ℕ)
    (r : Result FlowStatus X) (status : FlowStatus) (old new lines : List ℕ)
    → ((written : List ℕ) → written ≡ old ++ lines → (shown_trees : List Tree)
    → IsFlowPushed v o flow status shown_trees shown_trees old written)
    → OnOk r (new ≡ old ++ lines)
    → OnOk r ((shown_trees : List Tree) → IsFlowPushed v o flow status shown_trees shown_trees old new)
is_flow_pushed-added v o flow (Err e) status old new lines is added = tt
is_flow_pushed-added v o flow (Ok s) status old new lines is added = is new added

-- lines that print no tree are right after whichever trees were printed before
pub is_flow_pushed-any_shown_trees : {X : Type 0} (v : AuditedValue) (o : AuditOptions) (flow : ℕ)
    (r : Result FlowStatus X)
    (old new : List ℕ) (shown_trees : List Tree)
    → IfOk r (λ s. (printed : List Tree) → IsFlowPushed v o flow s printed printed old new)
    → IfOk r (λ s. IsFlowPushed v o flow s shown_trees shown_trees old new)
is_flow_pushed-any_shown_trees v o flow (Err e) old new shown_trees is = tt
is_flow_pushed-any_shown_trees v o flow (Ok s) old new shown_trees is = is shown_trees

-- the flow's TTL, as its view has it
pub found-ttl_of_view : (d : DomainValue) (flow ttl : ℕ) (view : FlowOfDomain) (travel : Travel)
    → view ≡ record { domain = d; flow = flow } → ttl ≡ (net_in view).ttl
    → (let x : Examined = examined.Found (ttl_of d flow) travel in x) ≡ examined.Found ttl travel
found-ttl_of_view d flow ttl view travel is same =
    ap (λ (n : ℕ). (let x : Examined = examined.Found n travel in x))
    (sym (same ∙ ap (λ (w : FlowOfDomain). (net_in w).ttl) is))
