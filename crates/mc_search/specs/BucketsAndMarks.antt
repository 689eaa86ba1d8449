-- How items are kept by their numbers: in a list for each number, or as a mark at the place of each number.
-- Only contracts within this crate use these definitions.
use Rattle.std.specs.Prelude.{◌≡◌, ◌==◌, ℕ, ◌<◌, List, [], length, map, filter, slice_index_or}
use Rattle.std.specs.Prelude.{zero, suc, if◌then◌else◌, ◌∷◌, Bool, false}
use Rattle.mc_forward.specs.ListedTables.{DomainFacts}
use Rattle.mc_search.specs.declared.listed_interface.ListedInterface.{ListedInterface}
use Rattle.mc_search.specs.TopologyLans.{interface_at, listed_interface_at}
use Rattle.std.specs.List.{list_any}

-- ---- a list for each number

-- The list at each place holds the views of the keys whose number is the place's, in their order.
abbrev pub AreBuckets : {A : Type 0} → (ℕ → A) → (ℕ → ℕ) → List (List A) → List ℕ → Type 0
AreBuckets view number lists keys =
    (place : ℕ) → place < length lists → slice_index_or lists place []
    ≡ map view (filter (λ key. number key == place) keys)

-- The list of each LAN holds the interfaces that are on it, of those with these numbers, in their order.
abbrev pub AreInterfacesByLan : DomainFacts → List (List ListedInterface) → (numbers : List ℕ) → Type 0
AreInterfacesByLan domain lists numbers =
    AreBuckets (listed_interface_at domain) (λ key. (interface_at domain.topology key).lan) lists numbers

-- ---- adjacent interfaces of one router

-- how many interfaces at the front of the list are the router's
abbrev pub leading_of_router : ℕ → List ListedInterface → ℕ
leading_of_router router [] = zero
leading_of_router router (interface ∷ interfaces) = if interface.router == router
    then suc (leading_of_router router interfaces) else zero

-- ---- marks by numbers

-- The mark at each place is set exactly if the place's number passes the test.
abbrev pub AreMarksOf : (ℕ → Bool) → List Bool → Type 0
AreMarksOf p marks = (number : ℕ) → number < length marks → slice_index_or marks number false ≡ p number

-- Of the marks exactly those at these numbers are set.
abbrev pub AreMarksOfListed : List ℕ → List Bool → Type 0
AreMarksOfListed numbers marks = AreMarksOf (λ number. list_any (λ listed. listed == number) numbers) marks
