-- Where a copy came from: each carried copy but the source's was sent on from one that was carried
-- before it.
use Rattle.std.specs.Prelude.{◌≡◌, ℕ, ◌+◌, ◌<◌, List, [], ◌∷◌, ◌++◌, Some, ⊤}
use Rattle.mc_theory.specs.Lists.{In}
use Rattle.mc_theory.specs.Nets.{Net, Interface}
use Rattle.mc_theory.specs.Nets.Row.{Exact}
use Rattle.mc_theory.specs.Flights.{Copy}

-- The interface sent the copy `sent` when its router handled the copy `taken`: the router's (S,G)
-- entry takes from the LAN of `taken`, it has a pair of the interface's vif whose threshold the TTL
-- of `taken` passed, and `sent` has one TTL less.
pub record IsSentOn (net : Net) (taken sent : Copy) (interface : Interface) : Type 0 where
  pub incoming : ℕ
  pub pairs : List (ℕ × ℕ)
  pub threshold : ℕ
  pub row : net.row interface.0 ≡ Exact incoming pairs
  pub from : net.placed interface.0 incoming ≡ Some taken.lan
  pub pair : In (interface.1, threshold) pairs
  pub passed : threshold < taken.ttl
  pub ttl : sent.ttl + 1 ≡ taken.ttl
  pub onto : net.placed interface.0 interface.1 ≡ Some sent.lan

-- If an interface sent the copy, it sent it on from one of the earlier ones.
abbrev pub IsSentOnFromSome : Net → List Copy → Copy → Type 0
IsSentOnFromSome net earlier copy = (interface : Interface) → copy.sender ≡ Some interface →
    (taken : Copy) × In taken earlier × IsSentOn net taken copy interface

-- Each of these copies, after the `earlier` ones, was sent on from one before it.
abbrev pub AreInSendingOrder : Net → List Copy → List Copy → Type 0
AreInSendingOrder net earlier [] = ⊤
AreInSendingOrder net earlier (copy ∷ copies) =
    IsSentOnFromSome net earlier copy × AreInSendingOrder net (earlier ++ copy ∷ []) copies
