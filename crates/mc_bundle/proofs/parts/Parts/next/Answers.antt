use Rattle.std.proofs.Common.{◌≡◌, Ok, Err, Some, None, ap, subst, sym, inl, inr, ◌∙◌}
use Rattle.std.proofs.lemmas.List.{append-nil}
use Rattle.mc_text.specs.Steps.{◌>>=◌}
use Rattle.mc_bundle.specs.PartsReading.{PartsState, parts_state, parts_from_current, current_part}
use Rattle.mc_bundle.specs.PartsReading.{prepend_parts, opened_next}
use Rattle.mc_bundle.specs.PartsReading.{parts_of_opened}
use Rattle.mc_bundle.proofs.PartsMeaning.{reads_as-ok, reads_as-err, parts_from_current-opened_next}
use Rattle.mc_bundle.proofs.parts.Parts.next.Goals as goal
use Rattle.mc_bundle.proofs.parts.Parts.next.Goals.{in-Start, in-Part}

-- To read the next line is to skip what is left of the current part (or the first line) and open the next
-- one, so that the parts to come are the current part, the opened one and the rest.
pub returns-in-Ok-Some-clause-opened : goal.returns-in-Ok-Some-clause-opened
returns-in-Ok-Some-clause-opened g c = λ text done remaining _.
    let own = c.self.inside in
    let state = parts_state own.stage own.parts own.room own.name own.size own.left
    (g.R.Input.remaining own.input) (g.R.Input.failed own.input) (g.R.Input.borrows own.input) in
    let start = c.match-self.start in
    let means = parts_from_current-opened_next state start done text c.self.invariant
    (elim c.match-self.branch [
      | in-Start w ↦ inl (w.in-Start.is, w.start-is)
      | in-Part w ↦ inr (w.in-Part.is, w.start-is)
    ]) in
    let known = ap (λ (s : PartsState). s.remaining) c.self.view_is ∙ remaining in
    let part = c.in-Ok-Some.part in
    let read = reads_as-ok (λ o. o) _ _ c.read_next.result
    (opened_next start state.left state.parts state.room) text (Some part) c.read_next.ensures.reads known
    (c.in-Ok-Some.is ∙ ap Ok c.in-Ok-Some.field-0-is) in
    let all = means
    ∙ ap (λ r. r >>= λ o. prepend_parts (current_part state done text) (parts_of_opened o.0 o.1)) read.2 in (
      read.0,
      read.1,
      subst (λ (s : PartsState). parts_from_current s done text
          ≡ prepend_parts (current_part s done text)
          (parts_of_opened (Some part) read.0)) c.self.view_is all,
    )

-- As above, but the line is `end`: the current part, if there is one, is the last.
pub returns-in-Ok-None-clause-ended : goal.returns-in-Ok-None-clause-ended
returns-in-Ok-None-clause-ended g c = λ text done remaining _.
    let own = c.self.inside in
    let state = parts_state own.stage own.parts own.room own.name own.size own.left
    (g.R.Input.remaining own.input) (g.R.Input.failed own.input) (g.R.Input.borrows own.input) in
    let start = c.match-self.start in
    let means = parts_from_current-opened_next state start done text c.self.invariant
    (elim c.match-self.branch [
      | in-Start w ↦ inl (w.in-Start.is, w.start-is)
      | in-Part w ↦ inr (w.in-Part.is, w.start-is)
    ]) in
    let known = ap (λ (s : PartsState). s.remaining) c.self.view_is ∙ remaining in
    let read = reads_as-ok (λ o. o) _ _ c.read_next.result
    (opened_next start state.left state.parts state.room) text None c.read_next.ensures.reads known
    (c.in-Ok-None.is ∙ ap Ok c.in-Ok-None.field-0-is) in
    let all = means
    ∙ ap (λ r. r >>= λ o. prepend_parts (current_part state done text) (parts_of_opened o.0 o.1)) read.2
    ∙ ap Ok (append-nil (current_part state done text)) in
    subst (λ (s : PartsState). parts_from_current s done text ≡ Ok (current_part s done text))
    c.self.view_is all

-- The fault of the next line is that of all that is to come, as the current part in front of it has none.
pub returns-in-Err-clause-fault : goal.returns-in-Err-clause-fault
returns-in-Err-clause-fault g c = λ text done remaining there.
    let own = c.self.inside in
    let state = parts_state own.stage own.parts own.room own.name own.size own.left
    (g.R.Input.remaining own.input) (g.R.Input.failed own.input) (g.R.Input.borrows own.input) in
    let start = c.match-self.start in
    let means = parts_from_current-opened_next state start done text c.self.invariant
    (elim c.match-self.branch [
      | in-Start w ↦ inl (w.in-Start.is, w.start-is)
      | in-Part w ↦ inr (w.in-Part.is, w.start-is)
    ]) in
    let known = ap (λ (s : PartsState). s.remaining) c.self.view_is ∙ remaining in
    let read = reads_as-err (λ o. o) _ _ c.read_next.result
    (opened_next start state.left state.parts state.room) text c.in-Err.fault c.read_next.ensures.reads
    known c.in-Err.is (λ is. there (c.failed.ensures.fault ∙ is)) in
    let all = means
    ∙ ap (λ r. r >>= λ o. prepend_parts (current_part state done text) (parts_of_opened o.0 o.1)) read in
    subst (λ (s : PartsState). parts_from_current s done text ≡ Err c.in-Err.fault) c.self.view_is all
    ∙ ap Err (sym c.failed.ensures.fault)
