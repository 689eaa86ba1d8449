-- Reading in steps: the first step that fails gives the fault.
use Rattle.std.specs.Prelude.{◌≡◌, Result, Ok, Err}

-- the second step, made with the value of the first; a fault of the first is that of both
infixl 10 ◌>>=◌
abbrev pub ◌>>=◌ : {A B E : Type 0} → Result A E → (A → Result B E) → Result B E
Ok x >>= next = next x
Err fault >>= next = Err fault

-- a step, whose fault is converted
abbrev pub map_fault : {A E F : Type 0} → (E → F) → Result A E → Result A F
map_fault as_ours (Ok x) = Ok x
map_fault as_ours (Err fault) = Err (as_ours fault)

-- The function's result, with `view` applied, is that of the step. Nothing is claimed where the
-- fault is a silent one, such as lack of memory.
abbrev pub Gives : {X Y E : Type 0} → (Silent : E → Type 0) → (X → Y) → Result X E → Result Y E
    → Type 0
Gives Silent view (Ok x) step = step ≡ Ok (view x)
Gives Silent view (Err fault) step = (¬ Silent fault) → step ≡ Err fault
