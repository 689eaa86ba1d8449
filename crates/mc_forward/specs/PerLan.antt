-- A list that has for each LAN, at the place of its number, the first item on that LAN.
use Rattle.std.specs.Prelude.{◌≡◌, ◌==◌, ℕ, if◌then◌else◌, List, [], ◌∷◌, Option, Some, None}
use Rattle.std.specs.Prelude.{slice_get}

-- the item, if there is a place and it holds one
abbrev pub flatten_option : {A : Type 0} → Option (Option A) → Option A
flatten_option None = None
flatten_option (Some o) = o

-- the item at a LAN's place, if there is one
abbrev pub item_on_lan : {A : Type 0} → List (Option A) → ℕ → Option A
item_on_lan places lan = flatten_option (slice_get places lan)

-- the first item whose key is this number, if there is one
abbrev pub first_with_key : {A : Type 0} → (A → ℕ) → List A → ℕ → Option A
first_with_key key [] number = None
first_with_key key (x ∷ xs) number = if key x == number then Some x else first_with_key key xs number

-- each place holds the first item whose key is the place's number, if there is one, and no key is a
-- number past the last place
abbrev pub HoldsFirstOfEachKey : {A : Type 0} → (A → ℕ) → List (Option A) → List A → Type 0
HoldsFirstOfEachKey key places xs = (number : ℕ) → item_on_lan places number ≡ first_with_key key xs number
