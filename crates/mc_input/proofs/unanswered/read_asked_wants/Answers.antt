use Rattle.std.proofs.Common.{◌≡◌, ◌<◌, ◌∙◌, ℕ, List, Some, ap, arith, length, map, rules, subst}
use Rattle.std.specs.Prelude.{slice_get}
use Rattle.mc_asked.specs.AskedLines.{asked_lines}
use Rattle.mc_asked.specs.LanWants.{LanWantsValue}
use Rattle.mc_asked.specs.ListWants.{Want}
use Rattle.mc_asked.specs.UnadmittedSoFar.{AreSourcesBelow}
use Rattle.mc_forward.proofs.IndexLemmas.{slice_get-exists}
use Rattle.mc_input.proofs.unanswered.read_asked_wants.Goals as goal

-- The next LAN's list is taken in, where it is needed.
pub loop-lan-preserved : goal.loop-lan-preserved
loop-lan-preserved g c =
    let wants = c.args.wants.now in
    let lan = c.loop-lan.lan in
    let within : lan < length wants = omega (
      arith,
      c.loop-lan-test.true,
      c.loop-lan.invariant.end,
      c.requires.count,
    ) in
    let own = slice_get-exists wants lan within in
    record {
      room = search rules;
      end = c.loop-lan.invariant.end;
      same = c.take_list.ensures.same ∙ c.loop-lan.invariant.same;
      kept = c.take_list.ensures.kept ∙ c.loop-lan.invariant.kept;
      failures = c.in_ok-take_list.ensures.failures ∙ c.loop-lan.invariant.failures;
      sources = λ all a lists contents is are wants_are.
          c.in_ok-take_list.ensures.sources own.0 lists contents own.1 (c.loop-lan.invariant.kept ∙ is) are
          all a (map (λ (line : Want × List ℕ). line.0) c.args.lines.now)
          (subst (λ (ws : List LanWantsValue). slice_get ws lan ≡ Some own.0) wants_are own.1)
          (c.loop-lan.invariant.sources all a lists contents is are wants_are);
    }

-- After the last LAN every list was taken in that a line for any source needs.
pub returns-clause-wants : goal.returns-clause-wants
returns-clause-wants g c = λ all a lists contents is are wants_are lines_are.
    let keys = map (λ (line : Want × List ℕ). line.0) c.args.lines.now in
    let end : c.loop-lan.lan ≡ length lists = omega (
      arith,
      c.loop-lan-test.false,
      c.loop-lan.auto.lan-end,
      c.loop-lan.invariant.end,
      are.count,
    ) in
    c.in_ok-into_wants.ensures.asked all a lists c.args.lines.now (lines_are ∙ ap (asked_lines all) wants_are)
    (subst (λ (n : ℕ). AreSourcesBelow all a lists n keys c.loop-lan.sources) end
    (c.loop-lan.invariant.sources all a lists contents is are wants_are))
