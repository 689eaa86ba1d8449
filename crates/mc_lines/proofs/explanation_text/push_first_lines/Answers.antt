-- While fewer than 40 lines are shown, the next one is written; then they are only counted.
use Rattle.std.proofs.Common.{◌≡◌, ℕ, ◌+◌, ◌-◌, ◌++◌, List, length, take, flat_map, ap, sym}
use Rattle.std.proofs.Common.{◌∙◌, arith}
use Rattle.std.specs.String.{string_bytes}
use Rattle.mc_search.specs.declared.shown_line.ShownLine.{ShownLine}
use Rattle.mc_search.proofs.ShownLineLemmas.{length-shown_lines}
use Rattle.mc_lines.specs.Filled.{line_text}
use Rattle.mc_lines.specs.FlowContext.{flow_context}
use Rattle.mc_lines.specs.SearchLines.{shown_items}
use Rattle.mc_lines.proofs.FirstLinesLemmas.{first_40_lines-full, first_40_lines-more}
use Rattle.mc_lines.proofs.explanation_text.push_first_lines.Goals as goal

-- There are no more shown lines than lines of the search, and a vector holds these.
pub overflow_add-count : goal.overflow_add-count
overflow_add-count c =
    let few = length-shown_lines c.args.lines.now in
    let all = c.loop-line.invariant.count in
    let rest = ap (λ (ls : List ShownLine). length ls) c.in-Some.ensures.steps in
    omega (arith, few, all, rest)

-- A line among the first 40 is written, and a later one is only counted, as in the text of the lines that
-- are left.
pub loop-line-preserved : goal.loop-line-preserved
loop-line-preserved c =
    let f : ShownLine → List ℕ =
    shown_items line_text (flow_context c.args.context.now) in
    let old = string_bytes c.loop-line.text in
    let n = c.loop-line.count in
    let line = c.in-Some.line in
    let rest = c.next.new.self in
    let step = c.in-Some.ensures.steps in
    let before = ap (λ (ls : List ShownLine). old ++ flat_map f (take (40 - n) ls)) (sym step) in
    let count : n + 1 + length rest ≡ _ =
    (let h = ap (λ (ls : List ShownLine). n + length ls) step in
    let all = c.loop-line.invariant.count in omega (arith, h, all)) in
    elim c.if-count-lt-MAX_SHOWN_LINES.branch [
      | goal.then-count-lt-MAX_SHOWN_LINES+in_ok-add_shown_line w ↦ rw w.text-is (record {
        text = ap (λ (l : List ℕ). l ++ flat_map f (take (40 - (n + 1)) rest))
            w.in_ok-add_shown_line.ensures
            ∙ first_40_lines-more f old line rest n w.if-count-lt-MAX_SHOWN_LINES.true ∙ before
            ∙ c.loop-line.invariant.text;
        count = count;
      })
      | goal.else-count-lt-MAX_SHOWN_LINES w ↦ rw w.text-is (record {
        text = first_40_lines-full f old line rest n w.if-count-lt-MAX_SHOWN_LINES.false ∙ before
            ∙ c.loop-line.invariant.text;
        count = count;
      })
    ]
