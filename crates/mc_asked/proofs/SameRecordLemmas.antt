-- What the same records ask for, whatever their order and however often each is there.
use Rattle.std.proofs.Common.{◌≡◌, zero, suc, Bool, List, [], ◌∷◌, Contains, filter, flat_map, inl, inr}
use Rattle.std.proofs.Common.{refl, sym, subst, arith}
use Rattle.std.proofs.lemmas.List.Elements.{Contains-append_cases, Contains-append_left}
use Rattle.std.proofs.lemmas.List.Elements.{Contains-append_right, filter-append}
use Rattle.mc_igmp.specs.declared.record.Record.{Record}
use Rattle.mc_igmp.specs.Wants.{HaveSameRecords, IsListed}
use Rattle.mc_tables.specs.Summary.{in_order}
use Rattle.mc_tables.proofs.PairOrderLemmas.{in_order-same_pairs}
use Rattle.mc_asked.specs.ListWants.{Want, asked_by}

-- what a record asks for is among what records ask for that have it
contains-asked_by : (test : Want → Bool) (r : Record) (others : List Record) (want : Want)
    → Contains others r → Contains (filter test (asked_by r)) want
    → Contains (filter test (flat_map asked_by others)) want
contains-asked_by test r [] want (k, below, is) own = absurd (omega (arith, below))
contains-asked_by test r (x ∷ xs) want (zero, below, is) own =
    rw (filter-append test (asked_by x) (flat_map asked_by xs))
    (Contains-append_left (filter test (asked_by x)) (filter test (flat_map asked_by xs)) want
    (subst (λ (y : Record). Contains (filter test (asked_by y)) want) (sym is) own))
contains-asked_by test r (x ∷ xs) want (suc k, below, is) own =
    rw (filter-append test (asked_by x) (flat_map asked_by xs))
    (Contains-append_right (filter test (asked_by x)) (filter test (flat_map asked_by xs)) want
    (contains-asked_by test r xs want (k, omega (arith, below), is) own))

-- what records ask for is among what others ask for that have each of them
contains-asked : (test : Want → Bool) (some others : List Record) → IsListed some others → (want : Want)
    → Contains (filter test (flat_map asked_by some)) want
    → Contains (filter test (flat_map asked_by others)) want
contains-asked test [] others listed want (k, below, is) = absurd (omega (arith, below))
contains-asked test (r ∷ rs) others listed want there =
    elim (Contains-append_cases (filter test (asked_by r)) (filter test (flat_map asked_by rs)) want
    (rw (filter-append test (asked_by r) (flat_map asked_by rs)) at there)) [
      | inl own ↦ contains-asked_by test r others want (listed r (0, omega arith, refl)) own
      | inr more ↦ contains-asked test rs others
          (λ x later. listed x (Contains-append_right (r ∷ []) rs x later)) want more
    ]

-- what passes a test of what the same records ask for is the same in order
pub in_order-same_asked : (test : Want → Bool) (some others : List Record) → HaveSameRecords some others
    → in_order (filter test (flat_map asked_by some)) ≡ in_order (filter test (flat_map asked_by others))
in_order-same_asked test some others same =
    in_order-same_pairs (filter test (flat_map asked_by some)) (filter test (flat_map asked_by others))
    (λ want. (
      contains-asked test some others (λ r. (same r).0) want,
      contains-asked test others some (λ r. (same r).1) want,
    ))
