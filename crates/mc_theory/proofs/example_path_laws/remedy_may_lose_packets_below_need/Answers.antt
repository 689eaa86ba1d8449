-- Computed, and by the certificate without r2.
use Rattle.std.proofs.Common.{inl, inr, [], ◌∷◌, Some, None, refl, arith}
use Rattle.mc_theory.specs.Lists.{below}
use Rattle.mc_theory.specs.Nets.{interfaces}
use Rattle.mc_theory.specs.ExampleNetworks.{copy, onward_hop, twins}
use Rattle.mc_theory.proofs.ListLemmas.{distinct-below}
use Rattle.mc_theory.proofs.ExampleCertificates.{is_hop-onward, one_twin-headline_holds, one_twin-stops_ttl_2}
use Rattle.mc_theory.proofs.example_path_laws.remedy_may_lose_packets_below_need.Goals as goal

pub returns-clause-travel : goal.returns-clause-travel
unfolding below interfaces
returns-clause-travel c = (refl, refl, (refl, refl, refl))

pub returns-clause-spare : goal.returns-clause-spare
unfolding below interfaces
returns-clause-spare c = record {
  first_double = record {
    earlier = copy 0 255 None ∷ copy 1 254 (Some (0, 1)) ∷ [];
    later = [];
    split = refl;
    once = distinct-below 2;
    again = inr (inl refl);
  };
  sender = refl;
  first = copy 1 254 (Some (0, 1));
  first_on = refl;
  came_by_hops = (
    refl,
    refl,
    record {
      incoming = 0;
      pairs = (1, 64) ∷ [];
      row = refl;
      takes = refl;
      pair = inl refl;
      sends = refl;
    },
    (copy 0 255 None, refl, refl),
  );
}

pub returns-clause-least_ttl : goal.returns-clause-least_ttl
returns-clause-least_ttl c = refl

pub returns-clause-right : goal.returns-clause-right
returns-clause-right c = one_twin-headline_holds

pub returns-clause-reached_before : goal.returns-clause-reached_before
returns-clause-reached_before c = (
  onward_hop 0 1 1 ∷ [],
  (refl, is_hop-onward twins 0 1 1 refl refl refl, refl),
  (omega arith, tt),
)

pub returns-clause-not_reached_after : goal.returns-clause-not_reached_after
returns-clause-not_reached_after c = one_twin-stops_ttl_2
