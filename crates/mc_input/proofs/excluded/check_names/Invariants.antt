use Rattle.std.proofs.Common.{◌≡◌, ◌+◌, drop, length, map}
use Rattle.mc_input.specs.ExcludedRouters.{check_router_names}
use Rattle.mc_input.proofs.excluded.check_names.Given as goal

-- those so far are routers
abbrev pub invariant-loop-place : goal.invariant-loop-place
invariant-loop-place l = record {
  count : l.place-end ≡ length l.fn.without;
  left : check_router_names l.fn.topology (l.place + 1) (drop l.place (map (λ n. n.now) l.fn.without))
      ≡ check_router_names l.fn.topology 1 (map (λ n. n.now) l.fn.without);
}
