-- Computed, and by the certificate of the open diamond.
use Rattle.std.proofs.Common.{◌≡◌, inl, inr, [], ◌∷◌, Some, None, refl, ap, arith}
use Rattle.mc_theory.specs.Lists.{below}
use Rattle.mc_theory.specs.Nets.{Interface, interfaces}
use Rattle.mc_theory.specs.ExampleNetworks.{copy, onward_hop, upper_path, closed_diamond}
use Rattle.mc_theory.proofs.ListLemmas.{distinct-below}
use Rattle.mc_theory.proofs.ExampleCertificates.{is_hop-onward, mended_diamond-headline_holds}
use Rattle.mc_theory.proofs.example_path_laws.closed_diamond_has_a_remedy.Goals as goal

pub returns-clause-travel : goal.returns-clause-travel
unfolding below interfaces
returns-clause-travel c = (refl, refl, (refl, refl, (refl, refl, (refl, refl, refl))))

pub returns-clause-came_twice : goal.returns-clause-came_twice
unfolding below interfaces
returns-clause-came_twice c = record {
  first = copy 3 253 (Some (2, 1));
  second = copy 3 253 (Some (3, 1));
  first_on = refl;
  first_double = record {
    earlier = copy 0 255 None ∷ copy 1 254 (Some (0, 1)) ∷ copy 2 254 (Some (1, 1))
        ∷ copy 3 253 (Some (2, 1)) ∷ [];
    later = [];
    split = refl;
    once = distinct-below 4;
    again = inr (inr (inr (inl refl)));
  };
  lan = refl;
  senders = λ e.
      let place : ◌≡◌ {A = Interface} (2, 1) (3, 1) = cc in
      let router = ap (λ (x : Interface). x.0) place in
      omega (arith, router);
  first_path = upper_path;
  first_came = (
    refl,
    refl,
    is_hop-onward closed_diamond 1 2 3 refl refl refl,
    (
      copy 1 254 (Some (0, 1)),
      refl,
      (refl, refl, is_hop-onward closed_diamond 0 0 1 refl refl refl, (copy 0 255 None, refl, refl)),
    ),
  );
  first_leads = (
    refl,
    is_hop-onward closed_diamond 1 2 3 refl refl refl,
    (refl, is_hop-onward closed_diamond 0 0 1 refl refl refl, refl),
  );
  second_path = onward_hop 2 3 3 ∷ onward_hop 0 1 2 ∷ [];
  second_came = (
    refl,
    refl,
    is_hop-onward closed_diamond 2 3 3 refl refl refl,
    (
      copy 2 254 (Some (1, 1)),
      refl,
      (refl, refl, is_hop-onward closed_diamond 0 1 2 refl refl refl, (copy 0 255 None, refl, refl)),
    ),
  );
  second_leads = (
    refl,
    is_hop-onward closed_diamond 2 3 3 refl refl refl,
    (refl, is_hop-onward closed_diamond 0 1 2 refl refl refl, refl),
  );
  not_before = λ h. elim h [
    | inl e ↦ omega (arith, e)
    | inr (inl e) ↦ omega (arith, e)
    | inr (inr z) ↦ z
  ];
}

pub returns-clause-spare : goal.returns-clause-spare
unfolding below interfaces
returns-clause-spare c = record {
  first_double = record {
    earlier = copy 0 255 None ∷ copy 1 254 (Some (0, 1)) ∷ copy 2 254 (Some (1, 1))
        ∷ copy 3 253 (Some (2, 1)) ∷ [];
    later = [];
    split = refl;
    once = distinct-below 4;
    again = inr (inr (inr (inl refl)));
  };
  sender = refl;
  first = copy 3 253 (Some (2, 1));
  first_on = refl;
  came_by_hops = (
    refl,
    refl,
    is_hop-onward closed_diamond 1 2 3 refl refl refl,
    (
      copy 1 254 (Some (0, 1)),
      refl,
      (refl, refl, is_hop-onward closed_diamond 0 0 1 refl refl refl, (copy 0 255 None, refl, refl)),
    ),
  );
}

pub returns-clause-right : goal.returns-clause-right
returns-clause-right c = mended_diamond-headline_holds
