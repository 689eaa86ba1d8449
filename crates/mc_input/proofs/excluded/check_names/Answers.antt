use Rattle.std.proofs.Common.{ℕ, ap, Err, Result, sym, ◌∙◌}
use Rattle.mc_input.specs.declared.exclusion_fault.ExclusionFault.{ExclusionFault}
use Rattle.mc_input.specs.declared.exclusion_fault.ExclusionFault.TheVariants.{NoSuchRouter}
use Rattle.mc_input.proofs.ExcludedLemmas.{check_router_names-more, check_router_names-Err}
use Rattle.mc_input.proofs.excluded.check_names.Goals as goal

-- The names before this one are routers', so that this is the first that isn't.
pub returns-then-is_none-clause-names : goal.returns-then-is_none-clause-names
returns-then-is_none-clause-names c =
    let refused : ℕ → Result (Unit {0}) ExclusionFault = λ n. Err (NoSuchRouter n) in
    ap refused c.min-number.ensures
    ∙ sym (check_router_names-Err c.args.topology.now c.args.without.now c.loop-place.place _
    c.router_no.result c.loop-place-test.true c.router_no.ensures.number c.if-is_none.ensures)
    ∙ c.loop-place.invariant.left

-- This name is a router's, so that the check goes on with those after it.
pub loop-place-preserved : goal.loop-place-preserved
loop-place-preserved c = record {
  count = c.loop-place.invariant.count;
  left = sym (check_router_names-more c.args.topology.now c.args.without.now c.loop-place.place _
      c.router_no.result c.loop-place-test.true c.router_no.ensures.number c.if-is_none.ensures)
      ∙ c.loop-place.invariant.left;
}
