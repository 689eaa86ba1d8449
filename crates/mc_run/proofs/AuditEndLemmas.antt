-- The lines after those of the flows, part by part.
use Rattle.std.proofs.Common.{◌≡◌, ℕ, Bool, true, false, List, ◌++◌, length, Result, Ok, Err, ap, ◌∙◌}
use Rattle.std.proofs.Common.{append_assoc}
use Rattle.std.specs.Prelude.{OnOk, flat_map, not}
use Rattle.mc_tables.specs.Summary.{SummaryValue}
use Rattle.mc_topology.specs.Topology.{TopologyValue}
use Rattle.mc_shown.specs.ExcludedText.{excluded_routers, excluded_text, verdict_reason, excluded_line}
use Rattle.mc_shown.specs.ExcludedText.{excluded_lines}
use Rattle.mc_shown.specs.UnlistedText.{unlisted_text}
use Rattle.mc_json.specs.EndData.{summary_data, unlisted_lines, without_line, without_line_of}
use Rattle.mc_json.specs.RowData.{line_of}
use Rattle.mc_input.specs.AskedOfFiles.{UnansweredWantsValue}
use Rattle.mc_run.specs.AuditAsked.{asked_lines}
use Rattle.mc_run.specs.AuditEnd.{end_objects, end_text, strict_lines, summary_line}
use Rattle.mc_cli.specs.declared.audit_options.AuditOptions.{AuditOptions}

-- parts that are written one after the other
append-two_parts : {A X : Type 0} (r : Result A X) (old a b c one two new : List ℕ) → one ≡ old ++ a
    → two ≡ one ++ b → OnOk r (new ≡ two ++ c) → OnOk r (new ≡ old ++ (a ++ (b ++ c)))
append-two_parts (Err e) old a b c one two new first second third = tt
append-two_parts (Ok x) old a b c one two new first second third =
    third ∙ ap (λ xs. xs ++ c) (second ∙ ap (λ xs. xs ++ b) first)
    ∙ append_assoc (old ++ a) b c ∙ append_assoc old a (b ++ c)

-- the parts of the text after the flows, appended one after another, are that text: the topology is the
-- domain's, and the routers are the excluded ones
pub end_text-parts : {A X : Type 0} (o : AuditOptions) (t u : TopologyValue) (summary : List SummaryValue)
    (asked : UnansweredWantsValue) (marks : List Bool) (routers again : List ℕ) (whole all : Bool)
    (flows right wrong unknown unwanted wants : ℕ) (r : Result A X) (old one two three four five new : List ℕ)
    → t ≡ u → flows ≡ length t.flows → routers ≡ excluded_routers t marks → again ≡ excluded_routers t marks
    → wants ≡ asked.count → one ≡ old ++ unlisted_text o.unlisted t summary
    → two ≡ one ++ asked_lines false u (not whole) asked → three ≡ two ++ flat_map (excluded_line t) routers
    → four ≡ three ++ summary_line flows right wrong unknown unwanted wants
    → five ≡ four ++ verdict_reason t again
    → OnOk r (new ≡ five ++ strict_lines o.strict all unwanted wants)
    → OnOk r (new ≡ old ++ end_text o u summary asked marks whole all (length u.flows) right wrong unknown
    unwanted)
end_text-parts o t u summary asked marks routers again whole all flows right wrong unknown unwanted
    wants (Err e)
    old one two three four five new same size are are_again counted first second third fourth fifth last = tt
end_text-parts {A = A} {X = X} o t u summary asked marks routers again whole all flows right wrong unknown
    unwanted wants (Ok x) old one two three four five new same size are are_again counted first second third
    fourth fifth last =
    let lines = asked_lines false u (not whole) asked in
    let behind = λ (s : TopologyValue) (n w : ℕ). excluded_lines s marks
    ++ (summary_line n right wrong unknown unwanted w
    ++ (excluded_text s marks ++ strict_lines o.strict all unwanted w)) in
    let end : Result A X = Ok x in
    let rest : new ≡ two ++ behind t flows wants =
    append-two_parts end two (excluded_lines t marks) (summary_line flows right wrong unknown unwanted wants)
    (excluded_text t marks ++ strict_lines o.strict all unwanted wants) three four new
    (third ∙ ap (λ (rs : List ℕ). two ++ flat_map (excluded_line t) rs) are) fourth
    (last ∙ ap (λ (xs : List ℕ). xs ++ strict_lines o.strict all unwanted wants)
    (fifth ∙ ap (λ (rs : List ℕ). four ++ verdict_reason t rs) are_again)
    ∙ append_assoc four (excluded_text t marks) (strict_lines o.strict all unwanted wants)) in
    append-two_parts end old (unlisted_text o.unlisted t summary) lines (behind t flows wants) one
    two new first second rest
    ∙ ap (λ (w : ℕ). old ++ (unlisted_text o.unlisted t summary ++ (lines ++ behind t flows w))) counted
    ∙ ap (λ (n : ℕ). old ++ (unlisted_text o.unlisted t summary ++ (lines ++ behind t n asked.count))) size
    ∙ ap (λ (s : TopologyValue). old ++ (unlisted_text o.unlisted s summary
    ++ (lines ++ behind s (length s.flows) asked.count))) same

-- in JSON
pub end_objects-parts : {A X : Type 0} (o : AuditOptions) (t u : TopologyValue) (summary : List SummaryValue)
    (asked : UnansweredWantsValue) (marks : List Bool) (whole : Bool) (routers : List ℕ)
    (right wrong unknown unwanted wants : ℕ) (r : Result A X) (old one two three new : List ℕ) → t ≡ u
    → routers ≡ excluded_routers t marks → wants ≡ asked.count
    → one ≡ old ++ unlisted_lines o.unlisted t summary → two ≡ one ++ asked_lines true u (not whole) asked
    → three ≡ two ++ without_line_of t routers
    → OnOk r (new ≡ three ++ line_of (summary_data wants right unknown unwanted wrong))
    → OnOk r (new ≡ old ++ end_objects o u summary asked marks whole right wrong unknown unwanted)
end_objects-parts o t u summary asked marks whole routers right wrong unknown unwanted wants
    (Err e) old one two
    three new same are counted first second third last = tt
end_objects-parts {A = A} {X = X} o t u summary asked marks whole routers right wrong unknown unwanted wants
    (Ok x) old one two three new same are counted first second third last =
    let lines = asked_lines true u (not whole) asked in
    let behind = λ (s : TopologyValue) (w : ℕ). without_line s marks
    ++ line_of (summary_data w right unknown unwanted wrong) in
    let end : Result A X = Ok x in
    let rest : new ≡ two ++ behind t wants =
    last ∙ ap (λ (xs : List ℕ). xs ++ line_of (summary_data wants right unknown unwanted wrong))
    (third ∙ ap (λ (rs : List ℕ). two ++ without_line_of t rs) are)
    ∙ append_assoc two (without_line t marks) (line_of (summary_data wants right unknown unwanted wrong)) in
    append-two_parts end old (unlisted_lines o.unlisted t summary) lines (behind t wants) one two new first
    second rest
    ∙ ap (λ (w : ℕ). old ++ (unlisted_lines o.unlisted t summary ++ (lines ++ behind t w))) counted
    ∙ ap (λ (s : TopologyValue). old ++ (unlisted_lines o.unlisted s summary
    ++ (lines ++ behind s asked.count))) same
