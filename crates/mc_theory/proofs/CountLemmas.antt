-- A count by a test is the length of what passes it, and a run that only handles loses none.
use Rattle.std.proofs.Common.{◌≡◌, ℕ, suc, Bool, true, false, cond, List, [], ◌∷◌, filter, length}
use Rattle.std.proofs.Common.{map, refl, ap}
use Rattle.mc_theory.specs.Lists.{count_of}
use Rattle.mc_theory.specs.Flights.{IsLossless}
use Rattle.mc_theory.specs.Flights.Pick.{Handles}

length_filter_step : {A : Type 0} (p : A → Bool) (x : A) (xs : List A) (b : Bool) →
    length (filter p xs) ≡ count_of p xs →
    length (cond b (x ∷ filter p xs) (filter p xs)) ≡ cond b (suc (count_of p xs)) (count_of p xs)
length_filter_step p x xs true h = ap suc h
length_filter_step p x xs false h = h

pub length_filter-count_of : {A : Type 0} (p : A → Bool) (xs : List A) →
    length (filter p xs) ≡ count_of p xs
length_filter-count_of p [] = refl
length_filter-count_of p (x ∷ xs) = length_filter_step p x xs (p x) (length_filter-count_of p xs)

pub is_lossless-map_handles : (is : List ℕ) → IsLossless (map Handles is)
is_lossless-map_handles [] = tt
is_lossless-map_handles (i ∷ is) = is_lossless-map_handles is
