-- From which TTL on packets show what a travel found: the greatest need among the copies that the
-- finding rests on. All of it is our own choice.
use Rattle.std.specs.Prelude.{◌≡◌, ℕ, ◌+◌, ◌≤◌, ◌⊎◌, max, List, length, Some, None}
use Rattle.mc_theory.specs.Lists.{In}
use Rattle.mc_theory.specs.Nets.{Net}
use Rattle.mc_theory.specs.Nets.Row.{Exact, Open}
use Rattle.mc_theory.specs.Flights.{Copy, Flight, Pick, IsCompleteRun, copy_count_on, run, start}
use Rattle.mc_theory.specs.Findings.{Finding, first_copy_on}
use Rattle.mc_theory.specs.Findings.Finding.{Clean, Duplicate, Loop, Stray, Missed}
use Rattle.mc_theory.specs.FindingMeaning.{IsFirstDouble}
use Rattle.mc_theory.specs.Paths.{Hop, CameByHops, need}

-- ---- what a finding rests on

-- The first copy of LAN `lan` came by these hops.
pub record FirstCameByHops (net : Net) (copies : List Copy) (lan : ℕ) (path : List Hop) : Type 0 where
  pub first : Copy
  pub first_on : first_copy_on copies lan ≡ Some first
  pub came : CameByHops net copies first path

-- A LAN's first copy and its second, the first of these copies that has an earlier one on its LAN,
-- came by two paths, and `least_ttl` is the greater of the paths' needs.
pub record RestsOnTwoCopies (net : Net) (copies : List Copy) (lan least_ttl : ℕ) : Type 0 where
  pub first_path : List Hop
  pub first : FirstCameByHops net copies lan first_path
  pub second : Copy
  pub first_double : IsFirstDouble copies second
  pub on : second.lan ≡ lan
  pub second_path : List Hop
  pub came : CameByHops net copies second second_path
  pub need_is : least_ttl ≡ max (need first_path) (need second_path)

-- The router's (S,G) entry takes the copy of a LAN, which came by a path, and sends it by the vif,
-- which is placed on no LAN. `least_ttl` is what a packet needs to get through the path and pass
-- the threshold after it.
pub record RestsOnSentCopy (net : Net) (copies : List Copy) (router vif least_ttl : ℕ) : Type 0 where
  pub incoming : ℕ
  pub pairs : List (ℕ × ℕ)
  pub threshold : ℕ
  pub row : net.row router ≡ Exact incoming pairs
  pub pair : In (vif, threshold) pairs
  pub unplaced : net.placed router vif ≡ None
  pub lan : ℕ
  pub takes : net.placed router incoming ≡ Some lan
  pub path : List Hop
  pub first : FirstCameByHops net copies lan path
  pub need_is : least_ttl ≡ max (need path) (length path + threshold + 1)

-- The router's row isn't followed, and its vif is placed on a LAN, whose copy came by a path with
-- the need `least_ttl`.
pub record RestsOnOpenRow (net : Net) (copies : List Copy) (router vif least_ttl : ℕ) : Type 0 where
  pub row : net.row router ≡ Open
  pub lan : ℕ
  pub placed : net.placed router vif ≡ Some lan
  pub path : List Hop
  pub first : FirstCameByHops net copies lan path
  pub need_is : least_ttl ≡ need path

-- `least_ttl` is the greatest need among the copies that the finding rests on: the first and the
-- second copy of a LAN, or the copy that a router sent out of the known domain or took by a row
-- that isn't followed.
abbrev pub IsShownFrom : Net → List Copy → Finding → (least_ttl : ℕ) → Type 0
IsShownFrom net copies (Duplicate lan) least_ttl = RestsOnTwoCopies net copies lan least_ttl
IsShownFrom net copies (Loop lan) least_ttl = RestsOnTwoCopies net copies lan least_ttl
IsShownFrom net copies (Stray router vif) least_ttl =
    RestsOnSentCopy net copies router vif least_ttl ⊎ RestsOnOpenRow net copies router vif least_ttl
IsShownFrom net copies Clean least_ttl = ⊥
IsShownFrom net copies (Missed lan) least_ttl = ⊥

-- ---- what a run shows

-- The flight shows the fault of the finding, whatever else it shows: two copies on its LAN, or its
-- stray.
abbrev pub HasFault : Finding → Flight → Type 0
HasFault (Duplicate lan) flight = 2 ≤ copy_count_on flight.carried lan
HasFault (Loop lan) flight = 2 ≤ copy_count_on flight.carried lan
HasFault (Stray router vif) flight = In (router, vif) flight.strays
HasFault Clean flight = ⊥
HasFault (Missed lan) flight = ⊥

-- Each complete run of a packet with this TTL that loses no copy has the fault of the finding.
abbrev pub EachCompleteRunHasFault : Net → (ttl : ℕ) → Finding → Type 0
EachCompleteRunHasFault net ttl found =
    (picks : List Pick) → IsCompleteRun net ttl picks → HasFault found (run net picks (start net ttl))
