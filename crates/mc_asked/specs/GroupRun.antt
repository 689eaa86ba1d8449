-- The pairs of one group, which are next to each other among ascending pairs. A pair has its group first.
use Rattle.std.specs.Prelude.{◌≡◌, ℕ, ◌-◌, ◌==◌, ◌≤◌, ◌++◌, false, true, List, drop, filter, length}
use Rattle.std.specs.Prelude.{map, take}
use Rattle.std.specs.List.{AllWithin}

-- the second parts of the pairs of a group
abbrev pub seconds_of : (group : ℕ) → List (ℕ × ℕ) → List ℕ
seconds_of group pairs = map (λ pair. pair.1) (filter (λ pair. pair.0 == group) pairs)

-- The pairs of the group are those from place `run.0` on and before place `run.1`.
pub record IsRunOf (group : ℕ) (pairs : List (ℕ × ℕ)) (run : ℕ × ℕ) : Type 0 where
  pub ordered : run.0 ≤ run.1
  pub within : run.1 ≤ length pairs
  pub before : AllWithin (λ pair. (pair.0 == group) ≡ false) pairs 0 run.0
  pub inside : AllWithin (λ pair. (pair.0 == group) ≡ true) pairs run.0 run.1
  pub behind : AllWithin (λ pair. (pair.0 == group) ≡ false) pairs run.1 (length pairs)

-- the list with a run of its elements changed: those from the run's first place on and before its second
abbrev pub with_run : {A : Type 0} → (A → A) → (run : ℕ × ℕ) → List A → List A
with_run change run items =
    take run.0 items ++ (map change (take (run.1 - run.0) (drop run.0 items)) ++ drop run.1 items)
