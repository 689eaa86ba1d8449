-- What each finding means for the flight that a travel ends with, in the words of copies and walks.
use Rattle.std.specs.Prelude.{◌≡◌, ℕ, ◌<◌, true, List, [], ◌∷◌, ◌++◌}
use Rattle.mc_theory.specs.Lists.{In, Distinct}
use Rattle.mc_theory.specs.Nets.{Net, Interface}
use Rattle.mc_theory.specs.Flights.{Copy, Flight}
use Rattle.mc_theory.specs.Certificates.{lans, IsClean}
use Rattle.mc_theory.specs.Findings.{Finding, IsWalkBack}
use Rattle.mc_theory.specs.Findings.Finding.{Clean, Duplicate, Loop, Stray, Missed}

-- the copy is the first of the carried ones that has an earlier one on its LAN
pub record IsFirstDouble (copies : List Copy) (copy : Copy) : Type 0 where
  pub earlier : List Copy
  pub later : List Copy
  pub split : copies ≡ earlier ++ copy ∷ later
  pub once : Distinct (lans earlier)
  pub again : In copy.lan (lans earlier)

-- the walk back from the first double copy, which is on the LAN `onto`
pub record FirstDoubleWalk (net : Net) (flight : Flight) (onto : ℕ) : Type 0 where
  pub copy : Copy
  pub first : IsFirstDouble flight.carried copy
  pub lan : copy.lan ≡ onto
  pub walk : List Copy
  pub back : IsWalkBack net flight.carried copy walk

-- The flight shows the finding.
abbrev pub Shows : Net → Flight → Finding → Type 0
-- Nothing waits, no LAN carried two copies, there is no stray, and each wanting LAN carried one.
Shows net flight Clean =
    IsClean flight × (flight.waiting ≡ [])
    × ((lan : ℕ) → net.wants lan ≡ true → In lan (lans flight.carried))
-- The LAN carried a second copy, and the walk back from that copy doesn't pass the LAN.
Shows net flight (Duplicate lan) =
    (double : FirstDoubleWalk net flight lan) × (In lan (lans double.walk) → ⊥)
-- The LAN carried a second copy, and the walk back from that copy passes the LAN.
Shows net flight (Loop lan) = (double : FirstDoubleWalk net flight lan) × In lan (lans double.walk)
-- No LAN carried two copies, and this is the first stray.
Shows net flight (Stray router vif) =
    Distinct (lans flight.carried)
    × ((others : List Interface) × (flight.strays ≡ (router, vif) ∷ others))
-- Nothing waits, no LAN carried two copies, there is no stray, and this is the lowest wanting LAN
-- that carried none.
Shows net flight (Missed lan) =
    IsClean flight × (flight.waiting ≡ []) × (net.wants lan ≡ true) × (In lan (lans flight.carried) → ⊥)
    × ((lower : ℕ) → lower < lan → net.wants lower ≡ true → In lower (lans flight.carried))
