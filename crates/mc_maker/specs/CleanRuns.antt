-- A run without a fault in which the first waiting copy is handled each time. The copies of one LAN are then
-- handled after those of the LANs that carried theirs before it, and so they need not be kept while they
-- wait.
use Rattle.std.specs.Prelude.{◌≡◌, ℕ, ◌-◌, ◌≤◌, List, [], ◌∷◌, ◌++◌, drop, filter, flat_map, length, map, not}
use Rattle.std.specs.Prelude.{Option, Some, None}
use Rattle.mc_theory.specs.Nets.{Net, Interface}
use Rattle.mc_theory.specs.Flights.{Copy, Flight, Waiting, hearers, is_sender, start, waits_at}
use Rattle.mc_theory.specs.Events.{Event}
use Rattle.mc_theory.specs.Certificates.{Entry}
use Rattle.mc_theory.specs.CertificateOfCopies.{entries_of}
use Rattle.mc_theory.specs.Reasons.{entry_on}
use Rattle.mc_theory.specs.Findings.{Finding}
use Rattle.mc_theory.specs.Findings.Finding.{Clean}
use Rattle.mc_replay.specs.Travels.{IsTravelTo, first_choices}
use Rattle.mc_maker.specs.EntriesByLan.{AreEntriesByLan, held_entries}

-- Handling the first waiting copy of a packet with this TTL each time ends in a flight that finds nothing, in
-- which LANs carried these copies.
pub record IsCleanRun (net : Net) (lans ttl : ℕ) (copies : List Copy) : Type 0 where
  pub events : List Event
  pub last : Flight
  pub run : IsTravelTo net lans first_choices (start net ttl) events last Clean
  pub carried : last.carried ≡ copies

-- ---- on the way there: only contracts of private functions use what follows

-- the copies of a packet so far, and how many LANs there are
pub record CopiesSoFar : Type 0 where
  pub lans : ℕ
  pub copies : List Copy

-- the copies that wait where these were heard
abbrev pub heard : Net → List Copy → List Waiting
heard net copies = flat_map (λ copy. map (waits_at copy.ttl) (hearers net copy)) copies

-- The flight in which LANs carried these copies. Some copies wait, and behind them those that were heard of
-- all but the first `handled` copies. There is no stray.
abbrev pub flight_at : Net → List Copy → (handled : ℕ) → List Waiting → Flight
flight_at net copies handled waiting = record {
  carried = copies;
  waiting = waiting ++ heard net (drop handled copies);
  strays = [];
}

-- Whatever waits, the step leads from the flight of the old copies to that of the new ones, which are as many
-- or more, on as many LANs.
pub record Leads (net : Net) (step : Flight → Flight) (old new : CopiesSoFar) : Type 0 where
  pub flight : (handled : ℕ) (waiting : List Waiting) → handled ≤ length old.copies
      → step (flight_at net old.copies handled waiting) ≡ flight_at net new.copies handled waiting
  pub more : length old.copies ≤ length new.copies
  pub lans : new.lans ≡ old.lans

-- Each run of first picks from the later flight on is the end of one from the earlier flight on.
abbrev pub GoesOnTo : Net → (lans : ℕ) → (earlier later : Flight) → Type 0
GoesOnTo net lans earlier later = (events : List Event) (last : Flight) (found : Finding)
    → IsTravelTo net lans first_choices later events last found
    → (all : List Event) × IsTravelTo net lans first_choices earlier all last found

-- The run of first picks goes on from where these copies wait before the others to where none of them does.
pub record GoesPast (net : Net) (waiting : List Waiting) (old new : CopiesSoFar) : Type 0 where
  pub run : (handled : ℕ) → handled ≤ length old.copies → GoesOnTo net old.lans
      (flight_at net old.copies handled waiting) (flight_at net new.copies handled [])
  pub more : length old.copies ≤ length new.copies
  pub lans : new.lans ≡ old.lans

-- the copies that wait at those of these interfaces that hear a copy: all but its sender
abbrev pub waiting_at : Copy → List Interface → List Waiting
waiting_at copy interfaces =
    map (waits_at copy.ttl) (filter (λ interface. not (is_sender copy.sender interface)) interfaces)

-- What goes past those that wait at other interfaces, from the new copies on, goes from the old ones past
-- those that wait at this interface and the others.
pub record GoesPastInterface (net : Net) (copy : Copy) (interface : Interface) (old new : CopiesSoFar)
    : Type 0 where
  pub run : (others : List Interface) (last : CopiesSoFar) → GoesPast net (waiting_at copy others) new last
      → GoesPast net (waiting_at copy (interface ∷ others)) old last
  pub lans : new.lans ≡ old.lans

-- The run goes on from where none of the copies was handled to where each was.
pub record GoesToEnd (net : Net) (old new : CopiesSoFar) : Type 0 where
  pub run : GoesOnTo net old.lans (flight_at net old.copies 0 [])
      (flight_at net new.copies (length new.copies) [])
  pub lans : new.lans ≡ old.lans

-- ---- entries

-- the copy, of a packet with TTL 255, that an entry is of
abbrev pub copy_of : Entry → Copy
copy_of entry = record { lan = entry.lan; ttl = 255 - entry.rank; sender = entry.forwarder }

-- the entry of the source's LAN
abbrev pub source_entry : Net → Entry
source_entry net = record { lan = net.source; rank = 0; need = 1; forwarder = None }

-- the entries of the copies so far, in their order, and how many LANs there are
pub record EntriesSoFar : Type 0 where
  pub lans : ℕ
  pub entries : List Entry

-- their copies
abbrev pub copies_so_far : EntriesSoFar → CopiesSoFar
copies_so_far far = record { lans = far.lans; copies = map copy_of far.entries }

-- one more entry
abbrev pub with_entry : Entry → EntriesSoFar → EntriesSoFar
with_entry entry far = record { lans = far.lans; entries = far.entries ++ entry ∷ [] }

-- The entries are those that a certificate has of their copies.
abbrev pub AreOfTheirCopies : Net → List Entry → Type 0
AreOfTheirCopies net entries = entries ≡ entries_of net (map copy_of entries)

-- The new entries keep the first one of each LAN, and are those of their copies where the old ones are.
pub record GrowsTo (net : Net) (old new : EntriesSoFar) : Type 0 where
  pub kept : (lan : ℕ) (entry : Entry) → entry_on old.entries lan ≡ Some entry
      → entry_on new.entries lan ≡ Some entry
  pub entries : AreOfTheirCopies net old.entries → AreOfTheirCopies net new.entries

-- The entries are those of the copies of a clean run at TTL 255, in the order of their LANs.
pub record AreEntriesOfCleanRun (net : Net) (lans : ℕ) (es : List Entry) : Type 0 where
  pub copies : List Copy
  pub run : IsCleanRun net lans 255 copies
  pub by_lan : List (Option Entry)
  pub places : AreEntriesByLan by_lan (entries_of net copies)
  pub held : es ≡ held_entries by_lan
