-- Computed, and by the need.
use Rattle.std.proofs.Common.{[], ◌∷◌, refl, arith}
use Rattle.mc_theory.specs.ExampleNetworks.{onward_hop, upper_path}
use Rattle.mc_theory.proofs.StoppingHop.{need_above-from_stopped, is_stopped-unique}
use Rattle.mc_theory.proofs.example_path_laws.diamond_stops_low_ttl_packets.Goals as goal

pub returns-clause-last_hop : goal.returns-clause-last_hop
returns-clause-last_hop c = record {
  after = [];
  before = onward_hop 0 0 1 ∷ [];
  split = refl;
  comes = (omega arith, tt);
  ttl = refl;
  stops = omega arith;
}

pub returns-clause-first_hop : goal.returns-clause-first_hop
returns-clause-first_hop c = record {
  after = onward_hop 1 2 3 ∷ [];
  before = [];
  split = refl;
  comes = tt;
  ttl = refl;
  stops = omega arith;
}

pub returns-clause-not_again : goal.returns-clause-not_again
returns-clause-not_again c = λ s.
    let other = (is_stopped-unique 1 upper_path (onward_hop 1 2 3) 0 (onward_hop 0 0 1) 1 s
    (returns-clause-first_hop c)).1 in
    omega (arith, other)

pub returns-clause-least_ttl : goal.returns-clause-least_ttl
returns-clause-least_ttl c = λ h left s.
    let low = need_above-from_stopped 3 upper_path h left s in
    omega (arith, low)

pub returns-clause-last_found : goal.returns-clause-last_found
returns-clause-last_found c = refl

pub returns-clause-first_found : goal.returns-clause-first_found
returns-clause-first_found c = refl

pub returns-clause-none_found : goal.returns-clause-none_found
returns-clause-none_found c = refl
