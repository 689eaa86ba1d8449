-- The lines of an explanation begin with two spaces.
use Rattle.std.proofs.Common.{◌≡◌, ◌==◌, ◌-◌, ℕ, true, false, cond, List, [], ◌∷◌, ◌++◌, length, take}
use Rattle.std.proofs.Common.{codes, decimal, flat_map, refl}
use Rattle.std.specs.List.{list_all}
use Rattle.std.proofs.lemmas.Bool.{and_parts}
use Rattle.mc_tables.specs.Summary.{SummaryValue}
use Rattle.mc_text.proofs.ByteLemmas.{HasNoByte}
use Rattle.mc_topology.specs.Topology.{IsValidTopology}
use Rattle.mc_forward.specs.ListedTables.{DomainFacts}
use Rattle.mc_explain.specs.declared.causes.Cause.{Cause}
use Rattle.mc_search.specs.declared.searching.LanSearch.{LanSearch}
use Rattle.mc_shown.specs.Indented.{AreIndented}
use Rattle.mc_search.specs.ShownLines.{shown_lines}
use Rattle.mc_shown.proofs.IndentedLemmas.{are_indented-append, are_indented-flat_map}
use Rattle.mc_shown.proofs.IndentedLemmas.{are_indented-from_line_rest, are_indented-none}
use Rattle.mc_shown.proofs.IndentedLemmas.{is_line_rest-append, is_line_rest-append_front}
use Rattle.mc_shown.proofs.IndentedLemmas.{is_line_rest-feed}
use Rattle.mc_shown.proofs.LineFeedLemmas.{no_feed-from_list_all, number}
use Rattle.mc_lines.specs.CauseLines.{cause_items, cause_lines}
use Rattle.mc_lines.specs.ExplanationText.{causes_text, context_of, deeper_causes_text, first_lines_text}
use Rattle.mc_lines.specs.ExplanationText.{more_lines_text}
use Rattle.mc_lines.specs.ExplanationText.{search_text}
use Rattle.mc_lines.specs.Filled.{deeper_line_text, has_well_formed_sentences, indented_line}
use Rattle.mc_lines.specs.Filled.{indented_sentence, line_text, sentence_text}
use Rattle.mc_lines.specs.FlowContext.{FlowContext}
use Rattle.mc_lines.specs.Lines.{FactValue, Line}
use Rattle.mc_lines.specs.Sentences.{is_well_formed}
use Rattle.mc_lines.specs.SearchLines.{reach_items, reach_lines, shown_items, shown_line}
use Rattle.mc_lines.proofs.NoFeedLemmas.{no_feed-filled}
use Rattle.mc_lines.proofs.WellFormedLemmas.{well_formed-cause_lines, well_formed-reach_lines}
use Rattle.mc_lines.proofs.WellFormedLemmas.{well_formed-shown_line}

-- ---- lines with well-formed sentences

-- well-formed sentences, each after two spaces and maybe more
are_indented-sentences : (more : List ℕ) (c : FlowContext) (facts : List (List ℕ × FactValue))
    (ss : List (List ℕ)) → HasNoByte 10 more → IsValidTopology c.domain.topology
    → list_all (is_well_formed facts) ss ≡ true
    → AreIndented (flat_map (indented_sentence (codes "  " ++ more) c facts) ss)
are_indented-sentences more c facts [] plain ok well = are_indented-none
are_indented-sentences more c facts (s ∷ ss) plain ok well =
    let parts = and_parts (is_well_formed facts s) (list_all (is_well_formed facts) ss) well in
    are_indented-append (indented_sentence (codes "  " ++ more) c facts s)
    (flat_map (indented_sentence (codes "  " ++ more) c facts) ss)
    (are_indented-from_line_rest _ (is_line_rest-append more _ plain
    (is_line_rest-append (sentence_text c facts s) _ (no_feed-filled c facts s ok parts.0)
    is_line_rest-feed)))
    (are_indented-sentences more c facts ss plain ok parts.1)

-- several lines
are_indented-lines : (more : List ℕ) (c : FlowContext) (ls : List Line) → HasNoByte 10 more
    → IsValidTopology c.domain.topology → list_all has_well_formed_sentences ls ≡ true
    → AreIndented (flat_map (indented_line (codes "  " ++ more) c) ls)
are_indented-lines more c [] plain ok well = are_indented-none
are_indented-lines more c (l ∷ ls) plain ok well =
    let parts = and_parts (has_well_formed_sentences l) (list_all has_well_formed_sentences ls) well in
    are_indented-append (indented_line (codes "  " ++ more) c l)
    (flat_map (indented_line (codes "  " ++ more) c) ls)
    (are_indented-sentences more c l.facts l.sentences plain ok parts.0)
    (are_indented-lines more c ls plain ok parts.1)

-- a line's sentences begin with two spaces
pub are_indented-line_text : (c : FlowContext) (l : Line) → IsValidTopology c.domain.topology
    → has_well_formed_sentences l ≡ true → AreIndented (line_text c l)
are_indented-line_text c l ok well = are_indented-sentences [] c l.facts l.sentences tt ok well

-- ---- causes

-- the lines of causes begin with two spaces
pub are_indented-causes_text : (d : DomainFacts) (summary : List SummaryValue) (flow : ℕ)
    (causes : List Cause) → IsValidTopology d.topology → AreIndented (causes_text d summary flow causes)
are_indented-causes_text d summary flow causes ok =
    let c = context_of d summary flow in
    are_indented-flat_map (cause_items line_text c) causes
    (λ cause. are_indented-lines [] c (cause_lines c cause) tt ok (well_formed-cause_lines c cause))

-- those after four spaces too
pub are_indented-deeper_causes_text : (d : DomainFacts) (summary : List SummaryValue) (flow : ℕ)
    (causes : List Cause) → IsValidTopology d.topology
    → AreIndented (deeper_causes_text d summary flow causes)
are_indented-deeper_causes_text d summary flow causes ok =
    let c = context_of d summary flow in
    are_indented-flat_map (cause_items deeper_line_text c) causes
    (λ cause. are_indented-lines (codes "  ") c (cause_lines c cause)
    (no_feed-from_list_all (codes "  ") refl) ok (well_formed-cause_lines c cause))

-- ---- a search

-- the line on lines that aren't shown
are_indented-more_lines : (more : ℕ) → AreIndented (more_lines_text more)
are_indented-more_lines more =
    elim (more == 0) as (λ b. AreIndented (cond b []
    (codes "  and " ++ (decimal more ++ codes " more lines\n")))) [
      | true ↦ are_indented-none
      | false ↦ are_indented-from_line_rest _
          (is_line_rest-append_front (codes "and ") _ refl
          (is_line_rest-append (decimal more) _ (number more)
          (is_line_rest-append_front (codes " more lines") _ refl is_line_rest-feed)))
    ]

-- the text of a search is a sequence of lines that begin with two spaces
pub are_indented-search_text : (d : DomainFacts) (summary : List SummaryValue) (flow : ℕ)
    (found : LanSearch) → IsValidTopology d.topology → AreIndented (search_text d summary flow found)
are_indented-search_text d summary flow found ok =
    let c = context_of d summary flow in
    let shown = shown_lines found.lines.items in
    let sent_on = found.reach.sent_on.items in
    let took_none = found.reach.took_none.items in
    are_indented-append (reach_items line_text c sent_on took_none) (first_lines_text c shown)
    (are_indented-lines [] c (reach_lines sent_on took_none) tt ok
    (well_formed-reach_lines sent_on took_none))
    (are_indented-append (flat_map (shown_items line_text c) (take 40 shown))
    (more_lines_text (length shown - 40))
    (are_indented-flat_map (shown_items line_text c) (take 40 shown)
    (λ l. are_indented-line_text c (shown_line c l) ok (well_formed-shown_line c l)))
    (are_indented-more_lines (length shown - 40)))
