-- Findings, and travels: a travel is the run that a picker's choices make, up to the first flight
-- that shows a finding. It loses no copy. All of this is our own choice.
use Rattle.std.specs.Prelude.{IsTrue, ◌↔◌}
use Rattle.std.specs.Prelude.{◌≡◌, ℕ, zero, suc, ◌-◌, ◌<◌, ◌%◌, Bool, false, ◌||◌, ◌==◌}
use Rattle.std.specs.Prelude.{if◌then◌else◌, List, [], ◌∷◌, ◌++◌, length, Option, Some, None}
use Rattle.std.specs.Prelude.{is_some, ⊤}
use Rattle.mc_theory.specs.Lists.{In, below}
use Rattle.mc_theory.specs.Certificates.{lans}
use Rattle.mc_theory.specs.Nets.{Net, Row, Interface}
use Rattle.mc_theory.specs.Nets.Row.{Exact, Open, NoRow}
use Rattle.mc_theory.specs.Flights.{Copy, Waiting, Flight, Pick, start, step, run}
use Rattle.mc_theory.specs.Flights.Pick.{Handles}

-- what a travel finds
pub data Finding : Type 0 where
  -- nothing waits, no LAN carried two copies, none left the domain, and each wanting LAN carried
  -- one
  Clean : Finding
  -- a LAN carried a second copy
  Duplicate : (lan : ℕ) → Finding
  -- a LAN carried a second copy that came from the LAN itself
  Loop : (lan : ℕ) → Finding
  -- a copy left the known domain, here
  Stray : (router vif : ℕ) → Finding
  -- nothing waits, and this wanting LAN carried none
  Missed : (lan : ℕ) → Finding

-- ---- a second copy

-- the first copy that a LAN carried, if it carried one
abbrev pub first_copy_on : List Copy → ℕ → Option Copy
first_copy_on [] lan = None
first_copy_on (copy ∷ copies) lan = if copy.lan == lan then Some copy else first_copy_on copies lan

-- the first of these copies that has an earlier one on its LAN, after the `earlier` ones
abbrev pub first_double : List Copy → List Copy → Option Copy
first_double earlier [] = None
first_double earlier (copy ∷ copies) =
    if is_some (first_copy_on earlier copy.lan)
    then Some copy
    else first_double (earlier ++ copy ∷ []) copies

-- ---- the walk back from a copy: to the LAN that its sender took it from, to that LAN's first copy,
-- and so on to the source's copy

-- the LAN that a row of the router takes copies from, if there is one
abbrev pub taken_from : Net → ℕ → Row → Option ℕ
taken_from net router (Exact incoming pairs) = net.placed router incoming
taken_from net router Open = None
taken_from net router NoRow = None

-- the LAN that a sender took its copy from; the source took it from none
abbrev pub from_lan : Net → Option Interface → Option ℕ
from_lan net None = None
from_lan net (Some interface) = taken_from net interface.0 (net.row interface.0)

-- These copies, one after another, are the walk back from the copy, which ends at the source's
-- copy.
abbrev pub IsWalkBack : Net → List Copy → Copy → List Copy → Type 0
IsWalkBack net copies copy [] = copy.sender ≡ None
IsWalkBack net copies copy (first ∷ walk) =
    (from_lan net copy.sender ≡ Some first.lan) × (first_copy_on copies first.lan ≡ Some first)
    × IsWalkBack net copies first walk

-- the sender of a LAN's first copy, if it has one
abbrev pub sender_on : List Copy → ℕ → Option Interface
sender_on [] lan = None
sender_on (copy ∷ copies) lan = if copy.lan == lan then copy.sender else sender_on copies lan

-- whether the walk comes to the LAN next, or passes it later
abbrev pub is_lan_or : ℕ → (ℕ → Bool) → Option ℕ → Bool
is_lan_or lan next None = false
is_lan_or lan next (Some from) = (from == lan) || next from

-- Whether the walk back from a copy of this sender, over a limited number of LANs, passes the LAN.
-- The copy's own LAN doesn't count, unless the walk comes back to it. In the flight of a travel the
-- walk ends at the source's copy before it has passed as many LANs as there are carried copies.
abbrev pub walk_visits : Net → List Copy → ℕ → ℕ → Option Interface → Bool
walk_visits net copies lan zero sender = false
walk_visits net copies lan (suc limit) sender =
    is_lan_or lan (λ from. walk_visits net copies lan limit (sender_on copies from)) (from_lan net sender)

-- The walk back from a copy ends at the source's copy, over fewer LANs than there are carried
-- copies. It passes the LANs of which `walk_visits` says so.
pub record WalkEnds (net : Net) (copies : List Copy) (copy : Copy) : Type 0 where
  pub walk : List Copy
  pub back : IsWalkBack net copies copy walk
  pub short : length walk < length copies
  pub visited : (lan : ℕ) →
      IsTrue (walk_visits net copies lan (length copies) copy.sender) ↔ In lan (lans walk)

-- The walk back from each of these copies ends.
abbrev pub AllWalksEnd : Net → List Copy → Type 0
AllWalksEnd net copies = (copy : Copy) → In copy copies → WalkEnds net copies copy

-- ---- a LAN that was missed

-- the first of these LANs that wants the flow and carried no copy, if there is one
abbrev pub missed : Net → List Copy → List ℕ → Option ℕ
missed net copies [] = None
missed net copies (lan ∷ others) =
    if net.wants lan
    then (if is_some (first_copy_on copies lan) then missed net copies others else Some lan)
    else missed net copies others

-- the finding where nothing waits, no LAN carried two copies and none is a stray: the LAN that was
-- missed, if there is one
abbrev pub missed_finding : Option ℕ → Finding
missed_finding None = Clean
missed_finding (Some lan) = Missed lan

-- ---- what a flight shows: the first of these findings, or nothing, and then the travel goes on

-- where nothing waits: the lowest wanting LAN that carried no copy, or that all is clean
abbrev pub end_finding : Net → ℕ → List Copy → List Waiting → Option Finding
end_finding net count copies [] = Some (missed_finding (missed net copies (below count)))
end_finding net count copies (first ∷ others) = None

-- the first stray, or else what comes at the end
abbrev pub stray_finding : Net → ℕ → List Copy → List Waiting → List Interface → Option Finding
stray_finding net count copies waiting [] = end_finding net count copies waiting
stray_finding net count copies waiting (first ∷ others) = Some (Stray first.0 first.1)

-- the first second copy of a LAN, or else the first stray, or else what comes at the end
abbrev pub double_finding : Net → ℕ → Flight → Option Copy → Option Finding
double_finding net count flight None = stray_finding net count flight.carried flight.waiting flight.strays
double_finding net count flight (Some copy) =
    Some (
    if walk_visits net flight.carried copy.lan (length flight.carried) copy.sender
    then Loop copy.lan
    else Duplicate copy.lan
    )

-- what the flight shows, where LANs are numbered below the count
abbrev pub finding : Net → ℕ → Flight → Option Finding
finding net count flight = double_finding net count flight (first_double [] flight.carried)

-- ---- travels

-- What a picker chooses by: these numbers one after another, and then always the last waiting copy
-- or always the first.
pub record Choices : Type 0 where
  pub numbers : List ℕ
  pub last : Bool

-- the place that is chosen among `waiting` copies: the next number modulo `waiting`, or, where no
-- number is left, the last place or the first
abbrev pub choice : ℕ → List ℕ → Bool → ℕ
choice waiting [] last = if last then waiting - 1 else 0
choice waiting (number ∷ numbers) last = number % waiting

-- the numbers that are left after a choice
abbrev pub numbers_left : List ℕ → List ℕ
numbers_left [] = []
numbers_left (number ∷ numbers) = numbers

-- what a picker chooses by after a choice
abbrev pub after_choice : Choices → Choices
after_choice choices = record { numbers = numbers_left choices.numbers; last = choices.last }

-- From this flight on these picks are the picker's choices, no flight before the last shows
-- anything, and the last one shows what is found.
abbrev pub IsTravel : Net → ℕ → List ℕ → Bool → List ℕ → Flight → Finding → Type 0
IsTravel net count numbers last [] flight found = finding net count flight ≡ Some found
IsTravel net count numbers last (place ∷ places) flight found =
    (finding net count flight ≡ None)
    × (place ≡ choice (length flight.waiting) numbers last)
    × IsTravel net count (numbers_left numbers) last places (step net place flight) found

-- From this flight on these picks are the picker's choices, and no flight before the last shows
-- anything; the last one may.
abbrev pub IsTravelUnfinished : Net → ℕ → List ℕ → Bool → List ℕ → Flight → Type 0
IsTravelUnfinished net count numbers last [] flight = ⊤
IsTravelUnfinished net count numbers last (place ∷ places) flight =
    (finding net count flight ≡ None)
    × (place ≡ choice (length flight.waiting) numbers last)
    × IsTravelUnfinished net count (numbers_left numbers) last places (step net place flight)

-- a travel's picks as those of a run: each handles its copy
abbrev pub handles : List ℕ → List Pick
handles [] = []
handles (place ∷ places) = Handles place ∷ handles places

-- ---- what holds of travels, of a packet with this TTL and wanting LANs numbered below the count

-- Where a travel finds this, P holds of its last flight, whatever the picker chooses.
abbrev pub OnFinding : Net → (count ttl : ℕ) → Finding → (Flight → Type 0) → Type 0
OnFinding net count ttl found P = (numbers : List ℕ) (last : Bool) (places : List ℕ) →
    IsTravel net count numbers last places (start net ttl) found →
    P (run net (handles places) (start net ttl))

-- P holds of each travel's last flight, whatever the travel finds.
abbrev pub OnTravel : Net → (count ttl : ℕ) → (Flight → Type 0) → Type 0
OnTravel net count ttl P = (found : Finding) → OnFinding net count ttl found P

-- P holds of each travel's last flight, if the first waiting copy was handled each time (FIFO).
abbrev pub OnFifoTravel : Net → (count ttl : ℕ) → (Flight → Type 0) → Type 0
OnFifoTravel net count ttl P = (places : List ℕ) (found : Finding) →
    IsTravel net count [] false places (start net ttl) found → P (run net (handles places) (start net ttl))
