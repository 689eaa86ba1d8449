-- A LAN that a travel misses is one of the domain.
use Rattle.std.proofs.Common.{◌≡◌, ℕ, ◌<◌, Bool, true, false, List, [], ◌∷◌, inl, inr, cond, length}
use Rattle.std.proofs.Common.{Option, Some, None}
use Rattle.std.specs.Prelude.{is_some}
use Rattle.mc_theory.specs.Lists.{In, below}
use Rattle.mc_theory.specs.Nets.{Net, Interface}
use Rattle.mc_theory.specs.Flights.{Copy, Flight, Waiting, step}
use Rattle.mc_theory.specs.Findings.{Finding, IsTravel, first_copy_on, first_double, double_finding}
use Rattle.mc_theory.specs.Findings.{end_finding, walk_visits, missed, missed_finding, numbers_left}
use Rattle.mc_theory.specs.Findings.{stray_finding}
use Rattle.mc_theory.specs.Findings.Finding.{Duplicate, Loop, Missed}
use Rattle.mc_theory.proofs.ListLemmas.{in-below_cases}

-- the first missed LAN of a list is one of the list
missed-cons : (n : Net) (cs : List Copy) (x l : ℕ) (ls : List ℕ) (w b : Bool)
    → cond w (cond b (missed n cs ls) (Some x)) (missed n cs ls) ≡ Some l
    → (missed n cs ls ≡ Some l → In l ls) → In l (x ∷ ls)
missed-cons n cs x l ls true true h more = inr (more h)
missed-cons n cs x l ls true false h more = let same : x ≡ l = cc in inl same
missed-cons n cs x l ls false b h more = inr (more h)

-- a missed LAN is one of those that were tried
missed-in_lans : (n : Net) (cs : List Copy) (ls : List ℕ) (l : ℕ) → missed n cs ls ≡ Some l → In l ls
missed-in_lans n cs [] l h = absurd cc
missed-in_lans n cs (x ∷ ls) l h =
    missed-cons n cs x l ls (n.wants x) (is_some (first_copy_on cs x)) h (missed-in_lans n cs ls l)

-- a flight with the finding `Missed`
finding-missed_lan : (o : Option ℕ) (l : ℕ) → Some (missed_finding o) ≡ Some (Missed l) → o ≡ Some l
finding-missed_lan None l h = absurd cc
finding-missed_lan (Some m) l h = cc

-- at the end of a flight: the missed LAN is below the count
finding-at_end_missed : (n : Net) (count : ℕ) (cs : List Copy) (ws : List Waiting) (l : ℕ)
    → end_finding n count cs ws ≡ Some (Missed l) → l < count
finding-at_end_missed n count cs [] l h =
    in-below_cases l count (missed-in_lans n cs (below count) l (finding-missed_lan _ l h))
finding-at_end_missed n count cs (w ∷ ws) l h = absurd cc

-- a LAN is missed only where there are no strays, and it is one of the domain's
finding-no_strays_missed : (n : Net) (count : ℕ) (cs : List Copy) (ws : List Waiting)
    (is : List Interface) (l : ℕ)
    → stray_finding n count cs ws is ≡ Some (Missed l) → l < count
finding-no_strays_missed n count cs ws [] l h = finding-at_end_missed n count cs ws l h
finding-no_strays_missed n count cs ws (i ∷ is) l h = absurd cc

-- a duplicate or a loop is no missed LAN
finding-other_than_missed : (b : Bool) (m l : ℕ)
    → (let o : Option Finding = Some (cond b (Loop m) (Duplicate m)) in o) ≡ Some (Missed l) → ⊥
finding-other_than_missed true m l h = absurd cc
finding-other_than_missed false m l h = absurd cc

-- a LAN is missed only where no LAN has a second copy, and it is one of the domain's
finding-no_double_missed : (n : Net) (count : ℕ) (f : Flight) (o : Option Copy) (l : ℕ)
    → double_finding n count f o ≡ Some (Missed l) → l < count
finding-no_double_missed n count f None l h = finding-no_strays_missed n count f.carried f.waiting
    f.strays l h
finding-no_double_missed n count f (Some c) l h =
    absurd (finding-other_than_missed (walk_visits n f.carried c.lan (length f.carried) c.sender) c.lan l h)

-- only LANs of the domain are looked at, so that a missed one is among these
pub missed_lan-below_count : (n : Net) (count : ℕ) (numbers : List ℕ) (last : Bool) (picks : List ℕ)
    (f : Flight) (l : ℕ) → IsTravel n count numbers last picks f (Missed l) → l < count
missed_lan-below_count n count numbers last [] f l is = finding-no_double_missed n count f
    (first_double [] f.carried) l is
missed_lan-below_count n count numbers last (i ∷ picks) f l is =
    missed_lan-below_count n count (numbers_left numbers) last picks (step n i f) l is.2
