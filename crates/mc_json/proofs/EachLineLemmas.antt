-- Each line except the verdict's is an object whose first key isn't the verdict's.
use Rattle.std.proofs.Common.{◌==◌, ℕ, Bool, true, false, cond, List, [], ◌∷◌, flat_map, map, refl}
use Rattle.std.specs.Prelude.{codes}
use Rattle.mc_tables.specs.Summary.{SummaryValue}
use Rattle.mc_topology.specs.Topology.{TopologyValue}
use Rattle.mc_topology.specs.declared.flow.Flow.{Flow}
use Rattle.mc_theory.specs.Certificates.{Entry}
use Rattle.mc_theory.specs.Nets.{Net}
use Rattle.mc_forward.specs.ListedTables.{DomainFacts}
use Rattle.mc_shown.specs.ExcludedText.{excluded_routers}
use Rattle.mc_shown.specs.RoutersForWant.{RoutersForWant}
use Rattle.mc_shown.specs.UnlistedPairs.{with_routers}
use Rattle.mc_shown.specs.UnlistedText.{further_rows, shown_unlisted_pairs}
use Rattle.serde_json.specs.Data.{Data}
use Rattle.json.specs.Print.{escape_byte}
use Rattle.mc_asked.specs.ListWants.{Want}
use Rattle.mc_json.specs.AskedData.{asked_more_data, asked_more_line, asked_object, asked_services_line}
use Rattle.mc_json.specs.AskedData.{service_data}
use Rattle.mc_json.specs.DomainData.{domain_data}
use Rattle.mc_json.specs.EndData.{routers_data, single_member, summary_data, unlisted_data, unlisted_line}
use Rattle.mc_json.specs.EndData.{unlisted_lines, unlisted_more_data, unlisted_more_line, without_line}
use Rattle.mc_json.specs.EndData.{without_line_of}
use Rattle.mc_json.specs.FlowData.{right_data, tree_data}
use Rattle.mc_json.specs.ObjectLines.{AreObjectLines}
use Rattle.mc_json.specs.RowData.{line_of, list_data}
use Rattle.mc_json.proofs.ObjectLemmas.{are_object_lines-append, are_object_lines-flat_map}
use Rattle.mc_json.proofs.ObjectLemmas.{are_object_lines-none, are_object_lines-one}

-- the first line, on the domain
pub are_object_lines-domain : (d : DomainFacts) (words : List (List ℕ))
    → AreObjectLines (line_of (domain_data d words))
unfolding escape_byte
are_object_lines-domain d words = are_object_lines-one (domain_data d words) refl refl

-- ---- flows

-- a tree
pub are_object_lines-tree : (t : TopologyValue) (n : Net) (es : List Entry) (tree : ℕ)
    → AreObjectLines (line_of (tree_data t n es tree))
unfolding escape_byte
are_object_lines-tree t n es tree = are_object_lines-one (tree_data t n es tree) refl refl

-- a right flow
pub are_object_lines-right : (whole : Bool) (number : ℕ) (f : Flow) (copies tree : ℕ) (wanted : List Data)
    → AreObjectLines (line_of (right_data whole number f copies tree wanted))
unfolding escape_byte
are_object_lines-right true number f copies tree wanted =
    are_object_lines-one (right_data true number f copies tree wanted) refl refl
are_object_lines-right false number f copies tree wanted =
    are_object_lines-one (right_data false number f copies tree wanted) refl refl

-- ---- after the flows

-- a source and a group that aren't listed
are_object_lines-unlisted : (t : TopologyValue) (source group : ℕ) (routers : List ℕ)
    → AreObjectLines (line_of (unlisted_data t source group routers))
unfolding escape_byte
are_object_lines-unlisted t source group routers =
    are_object_lines-one (unlisted_data t source group routers) refl refl

-- how many further ones there are, if any
are_object_lines-unlisted_more : (rows : ℕ) (none : Bool)
    → AreObjectLines (cond none [] (line_of (unlisted_more_data rows)))
unfolding escape_byte
are_object_lines-unlisted_more rows true = are_object_lines-none
are_object_lines-unlisted_more rows false = are_object_lines-one (unlisted_more_data rows) refl refl

-- all lines on unlisted ones
pub are_object_lines-all_unlisted : (all : Bool) (t : TopologyValue) (summary : List SummaryValue)
    → AreObjectLines (unlisted_lines all t summary)
are_object_lines-all_unlisted all t summary =
    let pairs = map (with_routers t summary) (shown_unlisted_pairs all summary) in
    let more = further_rows all t summary in
    are_object_lines-append (flat_map (unlisted_line t) pairs) (unlisted_more_line more)
    (are_object_lines-flat_map (unlisted_line t) pairs (λ pair. are_object_lines-unlisted t pair.0.1
    pair.0.0 pair.1))
    (are_object_lines-unlisted_more more (more == 0))

-- the routers that are excluded, if any
are_object_lines-without_line_of : (t : TopologyValue) (routers : List ℕ)
    → AreObjectLines (without_line_of t routers)
unfolding escape_byte
are_object_lines-without_line_of t [] = are_object_lines-none
are_object_lines-without_line_of t (router ∷ routers) = are_object_lines-one
    (single_member (codes "without") (routers_data t (router ∷ routers))) refl refl

-- so it is for marked routers
pub are_object_lines-without : (t : TopologyValue) (excluded : List Bool)
    → AreObjectLines (without_line t excluded)
are_object_lines-without t excluded = are_object_lines-without_line_of t (excluded_routers t excluded)

-- the summary
pub are_object_lines-summary : (asked right unknown unwanted wrong : ℕ)
    → AreObjectLines (line_of (summary_data asked right unknown unwanted wrong))
unfolding escape_byte
are_object_lines-summary asked right unknown unwanted wrong =
    are_object_lines-one (summary_data asked right unknown unwanted wrong) refl refl

-- ---- what hosts ask for

-- a want that no flow answers
pub are_object_lines-asked : (t : TopologyValue) (line : Want × List ℕ) (listed : List ℕ)
    (routers : RoutersForWant) → AreObjectLines (line_of (asked_object t line listed routers))
unfolding escape_byte
are_object_lines-asked t line listed routers =
    are_object_lines-one (asked_object t line listed routers) refl refl

-- how many further wants there are, if any
are_object_lines-asked_more_if : (more : ℕ) (none : Bool)
    → AreObjectLines (cond none [] (line_of (asked_more_data more)))
unfolding escape_byte
are_object_lines-asked_more_if more true = are_object_lines-none
are_object_lines-asked_more_if more false = are_object_lines-one (asked_more_data more) refl refl

-- so it is for the line that is written
pub are_object_lines-asked_more : (more : ℕ) → AreObjectLines (asked_more_line more)
are_object_lines-asked_more more = are_object_lines-asked_more_if more (more == 0)

-- the services
pub are_object_lines-asked_services : (t : TopologyValue) (lines : List (Want × List ℕ))
    → AreObjectLines (asked_services_line t lines)
unfolding escape_byte
are_object_lines-asked_services t [] = are_object_lines-none
are_object_lines-asked_services t (line ∷ lines) = are_object_lines-one
    (single_member (codes "asked_services") (list_data (map (service_data t) (line ∷ lines)))) refl refl
