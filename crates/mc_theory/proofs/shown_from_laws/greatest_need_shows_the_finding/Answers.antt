-- Computed.
use Rattle.std.proofs.Common.{inl, inr, [], ◌∷◌, Some, None, refl, arith}
use Rattle.mc_theory.specs.Lists.{below}
use Rattle.mc_theory.specs.Nets.{interfaces}
use Rattle.mc_theory.specs.ExampleNetworks.{copy, hop_above, onward_hop, line_with_a_leak}
use Rattle.mc_theory.specs.ExampleNetworks.{line_with_an_open_row, line_with_loop, twins}
use Rattle.mc_theory.proofs.ListLemmas.{distinct-below}
use Rattle.mc_theory.proofs.ExampleCertificates.{is_hop-onward}
use Rattle.mc_theory.proofs.shown_from_laws.greatest_need_shows_the_finding.Goals as goal

pub returns-clause-twins : goal.returns-clause-twins
unfolding below interfaces
returns-clause-twins c = record {
  first_path = hop_above 64 0 0 1 ∷ [];
  first = record {
    first = copy 1 254 (Some (0, 1));
    first_on = refl;
    came = (
      refl,
      refl,
      record {
        incoming = 0;
        pairs = (1, 64) ∷ [];
        row = refl;
        takes = refl;
        pair = inl refl;
        sends = refl;
      },
      (copy 0 255 None, refl, refl),
    );
  };
  second = copy 1 254 (Some (1, 1));
  first_double = record {
    earlier = copy 0 255 None ∷ copy 1 254 (Some (0, 1)) ∷ [];
    later = [];
    split = refl;
    once = distinct-below 2;
    again = inr (inl refl);
  };
  on = refl;
  second_path = onward_hop 0 1 1 ∷ [];
  came = (refl, refl, is_hop-onward twins 0 1 1 refl refl refl, (copy 0 255 None, refl, refl));
  need_is = refl;
}

pub returns-clause-one_twin : goal.returns-clause-one_twin
unfolding below interfaces
returns-clause-one_twin c = λ two. omega (arith, two)

pub returns-clause-loop_back : goal.returns-clause-loop_back
unfolding below interfaces
returns-clause-loop_back c = record {
  first_path = [];
  first = record { first = copy 0 255 None; first_on = refl; came = refl };
  second = copy 0 252 (Some (2, 1));
  first_double = record {
    earlier = copy 0 255 None ∷ copy 1 254 (Some (0, 1)) ∷ copy 2 253 (Some (1, 1)) ∷ [];
    later = [];
    split = refl;
    once = distinct-below 3;
    again = inl refl;
  };
  on = refl;
  second_path = onward_hop 2 2 0 ∷ onward_hop 1 1 2 ∷ onward_hop 0 0 1 ∷ [];
  came = (
    refl,
    refl,
    is_hop-onward (line_with_loop 3) 2 2 0 refl refl refl,
    (
      copy 2 253 (Some (1, 1)),
      refl,
      (
        refl,
        refl,
        is_hop-onward (line_with_loop 3) 1 1 2 refl refl refl,
        (
          copy 1 254 (Some (0, 1)),
          refl,
          (
            refl,
            refl,
            is_hop-onward (line_with_loop 3) 0 0 1 refl refl refl,
            (copy 0 255 None, refl, refl),
          ),
        ),
      ),
    ),
  );
  need_is = refl;
}

pub returns-clause-leak : goal.returns-clause-leak
unfolding below interfaces
returns-clause-leak c = inl (record {
  incoming = 0;
  pairs = (1, 1) ∷ (2, 1) ∷ [];
  threshold = 1;
  row = refl;
  pair = inr (inl refl);
  unplaced = refl;
  lan = 1;
  takes = refl;
  path = onward_hop 0 0 1 ∷ [];
  first = record {
    first = copy 1 254 (Some (0, 1));
    first_on = refl;
    came = (refl, refl, is_hop-onward line_with_a_leak 0 0 1 refl refl refl, (copy 0 255 None, refl, refl));
  };
  need_is = refl;
})

pub returns-clause-open_row : goal.returns-clause-open_row
unfolding below interfaces
returns-clause-open_row c = inr (record {
  row = refl;
  lan = 1;
  placed = refl;
  path = onward_hop 0 0 1 ∷ [];
  first = record {
    first = copy 1 254 (Some (0, 1));
    first_on = refl;
    came = (
      refl,
      refl,
      is_hop-onward line_with_an_open_row 0 0 1 refl refl refl,
      (copy 0 255 None, refl, refl),
    );
  };
  need_is = refl;
})
