-- Computed, and by the line's certificate.
use Rattle.std.proofs.Common.{inl, [], ◌∷◌, Some, None, refl, arith}
use Rattle.mc_theory.specs.Lists.{below}
use Rattle.mc_theory.specs.Nets.{interfaces}
use Rattle.mc_theory.specs.ExampleNetworks.{copy, onward_hop, line_with_loop}
use Rattle.mc_theory.proofs.ListLemmas.{distinct-below}
use Rattle.mc_theory.proofs.ExampleCertificates.{is_hop-onward, mended_line-headline_holds}
use Rattle.mc_theory.proofs.example_path_laws.line_with_loop_has_a_remedy.Goals as goal

pub returns-clause-travel : goal.returns-clause-travel
unfolding below interfaces
returns-clause-travel c = (refl, refl, (refl, refl, (refl, refl, (refl, refl, refl))))

pub returns-clause-came_back : goal.returns-clause-came_back
unfolding below interfaces
returns-clause-came_back c = record {
  second = copy 0 252 (Some (2, 1));
  first_double = record {
    earlier = copy 0 255 None ∷ copy 1 254 (Some (0, 1)) ∷ copy 2 253 (Some (1, 1)) ∷ [];
    later = [];
    split = refl;
    once = distinct-below 3;
    again = inl refl;
  };
  lan = refl;
  last_hop = onward_hop 2 2 0;
  sender = refl;
  before = onward_hop 1 1 2 ∷ onward_hop 0 0 1 ∷ [];
  closed = (
    refl,
    is_hop-onward (line_with_loop 3) 2 2 0 refl refl refl,
    (
      refl,
      is_hop-onward (line_with_loop 3) 1 1 2 refl refl refl,
      (refl, is_hop-onward (line_with_loop 3) 0 0 1 refl refl refl, refl),
    ),
  );
  came_by_hops = (
    (refl, refl, is_hop-onward (line_with_loop 3) 2 2 0 refl refl refl),
    (λ e. omega (arith, e)),
    (
      copy 2 253 (Some (1, 1)),
      refl,
      (
        (refl, refl, is_hop-onward (line_with_loop 3) 1 1 2 refl refl refl),
        (λ e. omega (arith, e)),
        (
          copy 1 254 (Some (0, 1)),
          refl,
          ((refl, refl, is_hop-onward (line_with_loop 3) 0 0 1 refl refl refl), refl),
        ),
      ),
    ),
  );
  few = omega arith;
}

pub returns-clause-spare : goal.returns-clause-spare
unfolding below interfaces
returns-clause-spare c = record {
  first_double = record {
    earlier = copy 0 255 None ∷ copy 1 254 (Some (0, 1)) ∷ copy 2 253 (Some (1, 1)) ∷ [];
    later = [];
    split = refl;
    once = distinct-below 3;
    again = inl refl;
  };
  sender = refl;
  first = copy 0 255 None;
  first_on = refl;
  came_by_hops = refl;
}

pub returns-clause-right : goal.returns-clause-right
returns-clause-right c = mended_line-headline_holds
