-- From which TTL on packets show the finding of a travel (docs/FORMATS.md, the line `shown by`), worked out
-- from the copies that its flight carried. ShownFrom of mc_theory says what the number means.
use Rattle.std.specs.Prelude.{ℕ, ◌+◌, max, List, [], length, Option, Some, None}
use Rattle.mc_theory.specs.Nets.{Net, Row}
use Rattle.mc_theory.specs.Nets.Row.{Exact, Open, NoRow}
use Rattle.mc_theory.specs.Flights.{Copy}
use Rattle.mc_theory.specs.CertificateOfCopies.{threshold_of}
use Rattle.mc_theory.specs.ExcludedRouters.{IsSecondCopyOrStray}
use Rattle.mc_theory.specs.Findings.{Finding, first_copy_on, first_double}
use Rattle.mc_theory.specs.Findings.Finding.{Duplicate, Loop, Stray}
use Rattle.mc_theory.specs.Paths.{Hop, need}
use Rattle.mc_theory.specs.Hops.{hops_of_copy}
use Rattle.mc_theory.specs.ShownFrom.{IsShownFrom}

-- The TTL is the one from which on packets show the finding; there is none for a clean travel and for a
-- missed LAN.
abbrev pub IsShownFromIfAny : Net → List Copy → Finding → Option ℕ → Type 0
IsShownFromIfAny net copies finding None = IsSecondCopyOrStray finding → ⊥
IsShownFromIfAny net copies finding (Some least) = IsShownFrom net copies finding least

-- ---- how the number is worked out

-- the hops by which a copy came, if there is a copy
abbrev pub hops_of_copy_if_any : Net → List Copy → Option Copy → List Hop
hops_of_copy_if_any net copies None = []
hops_of_copy_if_any net copies (Some copy) = hops_of_copy net copies copy

-- the hops by which a LAN's first copy came
abbrev pub hops_to_lan : Net → List Copy → (lan : ℕ) → List Hop
hops_to_lan net copies lan = hops_of_copy_if_any net copies (first_copy_on copies lan)

-- the hops by which the LAN's first copy came, if there is a LAN
abbrev pub hops_from_lan_if_any : Net → List Copy → Option ℕ → List Hop
hops_from_lan_if_any net copies None = []
hops_from_lan_if_any net copies (Some lan) = hops_to_lan net copies lan

-- the greater of the needs of the LAN's first copy and of the first double copy
abbrev pub need_of_two_copies : Net → List Copy → (lan : ℕ) → ℕ
need_of_two_copies net copies lan =
    max (need (hops_to_lan net copies lan)) (need (hops_of_copy_if_any net copies (first_double [] copies)))

-- the need of a path and of a threshold at its end
abbrev pub need_behind : List Hop → (threshold : ℕ) → ℕ
need_behind hops threshold = max (need hops) (length hops + threshold + 1)

-- the need of a stray: of the copy that the row sent by the vif, or that came in by the vif and found an open
-- row
abbrev pub need_of_stray : Net → List Copy → Row → (router vif : ℕ) → ℕ
need_of_stray net copies (Exact incoming pairs) router vif =
    need_behind (hops_from_lan_if_any net copies (net.placed router incoming)) (threshold_of vif pairs)
need_of_stray net copies Open router vif = need (hops_from_lan_if_any net copies (net.placed router vif))
need_of_stray net copies NoRow router vif = 1

-- the need of a finding that rests on a second copy or on a stray
abbrev pub need_of_finding : Net → List Copy → Finding → Option ℕ
need_of_finding net copies (Duplicate lan) = Some (need_of_two_copies net copies lan)
need_of_finding net copies (Loop lan) = Some (need_of_two_copies net copies lan)
need_of_finding net copies (Stray router vif) = Some (need_of_stray net copies (net.row router) router vif)
need_of_finding net copies _ = None
