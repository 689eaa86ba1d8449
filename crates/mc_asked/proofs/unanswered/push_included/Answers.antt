use Rattle.std.proofs.Common.{ℕ, ◌++◌, ◌∷◌, [], List, append_assoc, filter, map, not, sym, ap, ◌∙◌}
use Rattle.mc_text.specs.Pair.{pair_of}
use Rattle.mc_tables.specs.Summary.{in_order}
use Rattle.mc_asked.specs.Answers.{is_answered}
use Rattle.mc_asked.specs.ListWants.{included_in}
use Rattle.mc_asked.proofs.TakenPairLemmas.{filter-included_first}
use Rattle.mc_asked.proofs.unanswered.push_included.Goals as goal

-- The source's want is taken, and it was the first of those to come.
pub loop-source-preserved : goal.loop-source-preserved
loop-source-preserved c = λ records index others.
    let test = λ (want : ℕ × ℕ). not (is_answered c.args.answers.now records want) in
    let group = c.args.group_record.now.group in
    let source = c.in-Some.source in
    let rest : List ℕ = c.next.new.self in
    let old = map pair_of c.loop-source.unanswered in
    let own = filter test (included_in group (source ∷ [])) in
    let more = filter test (included_in group rest) in
    c.in_ok-push_included_source.ensures records index (more ++ others)
    ∙ ap (λ (l : List (ℕ × ℕ)). in_order (old ++ l))
    (sym (append_assoc own more others)
    ∙ ap (λ (l : List (ℕ × ℕ)). l ++ others) (sym (filter-included_first test group source rest)
    ∙ ap (λ (l : List ℕ). filter test (included_in group l)) (sym c.in-Some.ensures.steps)))
    ∙ c.loop-source.invariant records index others

-- At the end no source is to come.
pub returns : goal.returns
returns c = λ records index others.
    rw c.in-None.ensures.steps.0 at c.loop-source.invariant records index others
