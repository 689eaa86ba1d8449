use Rattle.std.proofs.Common.{◌∙◌, ap, arith, rules, subst, List, ℕ, Some, [], ◌++◌, ◌∷◌, length, slice_get}
use Rattle.std.proofs.Common.{◌≡◌}
use Rattle.std.proofs.lemmas.List.{length-append}
use Rattle.std.proofs.lemmas.Result.{err_from_is_err_and}
use Rattle.std.specs.FinMap.{FinMap}
use Rattle.std.specs.Ordering.{nat_cmp}
use Rattle.mc_tables.specs.VifTable.{VifValue}
use Rattle.mc_topology.specs.SectionRows.{RouterRow}
use Rattle.mc_asked.specs.declared.forwarding.RouterState.{RouterState}
use Rattle.mc_input.specs.ExcludedRouters.{files_without}
use Rattle.mc_input.specs.StatesOfFiles.{AreStatesOfRouter}
use Rattle.mc_input.proofs.StateLemmas.{each-pushed}
use Rattle.mc_input.proofs.states.read_states.Goals as goal

-- The states of the next router are pushed behind those of the routers before it.
pub loop-router-preserved : goal.loop-router-preserved
loop-router-preserved g c =
    let d = c.args.domain.now in
    let before = c.loop-router.states.items in
    let own = c.in_ok-own.own.items in
    let items : c.push.new.self.items ≡ before ++ own ∷ [] =
    c.in_ok-push.ensures.items ∙ ap (λ (states : List RouterState). before ++ states ∷ []) c.of.ensures in
    record {
      room = search rules;
      end = c.loop-router.invariant.end;
      count = ap length items ∙ omega (arith, length-append before (own ∷ []), c.loop-router.invariant.count);
      same = c.read_states_of_router.ensures.same ∙ c.loop-router.invariant.same;
      kept = c.read_states_of_router.ensures.kept ∙ c.loop-router.invariant.kept;
      failures = c.in_ok-own.ensures.failures ∙ c.loop-router.invariant.failures;
      each = λ all contents summary is summaries router r vifs states at vifs_at states_at.
          let files = files_without c.args.without.now contents in
          each-pushed (λ (k : ℕ) (states : List RouterState). (r : RouterRow) (vifs : FinMap nat_cmp VifValue)
          → slice_get d.topology.routers k ≡ Some r → slice_get d.vifs k ≡ Some vifs
          → AreStatesOfRouter files c.args.wants.now vifs r states) before own
          (λ k states at r vifs r_at vifs_at.
          c.loop-router.invariant.each all contents summary is summaries k r vifs states r_at vifs_at at)
          (λ r vifs r_at vifs_at.
          c.in_ok-own.ensures.states all contents summary r vifs (c.loop-router.invariant.kept ∙ is) summaries
          (subst (λ (k : ℕ). slice_get d.topology.routers k ≡ Some r) c.loop-router.invariant.count r_at)
          (subst (λ (k : ℕ). slice_get d.vifs k ≡ Some vifs) c.loop-router.invariant.count vifs_at))
          router states
          (subst (λ (xs : List (List RouterState)). slice_get xs router ≡ Some states) items states_at)
          r vifs at vifs_at;
    }

-- After the last router there are the states of each.
pub returns-clause-states : goal.returns-clause-states
returns-clause-states g c = λ all contents summary is summaries. record {
  count = omega (
    arith,
    c.loop-router.invariant.count,
    c.loop-router.invariant.end,
    c.loop-router-test.false,
    c.loop-router.auto.router-end,
  );
  each = c.loop-router.invariant.each all contents summary is summaries;
}

-- The source's contents stay the same, so that this router's cache is the one that could be read.
pub returns-in_err-own-clause-fault : goal.returns-in_err-own-clause-fault
returns-in_err-own-clause-fault g c = λ all contents summary is summaries.
    let p = err_from_is_err_and c.from_residual.result c.from_residual.ensures.1 in
    rw (p.1, p.2)
    (c.in_err-own.ensures.fault all contents summary (c.loop-router.invariant.kept ∙ is) summaries)
