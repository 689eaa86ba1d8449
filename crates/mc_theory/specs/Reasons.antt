-- Why a list of entries doesn't certify a flow: the first reason, in the order in which the
-- conditions are checked. The order is our own choice. It is proved that there is no reason exactly
-- where the list is accepted.
use Rattle.std.specs.Prelude.{ℕ, ◌+◌, max, Bool, true, false, not, ◌&&◌, ◌||◌, nat_lt, ◌==◌}
use Rattle.std.specs.Prelude.{if◌then◌else◌, List, [], ◌∷◌, ◌++◌, Option, Some, None, is_some}
use Rattle.std.specs.List.{list_all, list_any}
use Rattle.mc_theory.specs.Lists.{below}
use Rattle.mc_theory.specs.Nets.{Net, Row, Interface, is_lan}
use Rattle.mc_theory.specs.Nets.Row.{Exact, Open, NoRow}
use Rattle.mc_theory.specs.Flights.{is_sender}
use Rattle.mc_theory.specs.Certificates.{Entry, is_live}

-- A reason why a list is refused: the condition that fails, and where it fails.
pub data Reason : Type 0 where
  -- one entry: this LAN is named twice
  TwoEntries : (lan : ℕ) → Reason
  -- source entry: there is none, or another entry has no forwarder
  BadSource : Reason
  -- no wildcard: this vif of a router whose row is open is placed on a named LAN
  Wildcard : (router vif : ℕ) → Reason
  -- no stray: this live vif isn't placed
  Stray : (router vif : ℕ) → Reason
  -- tree: this live vif sends onto a LAN that isn't named, or whose entry has another forwarder or
  -- none, as the source's
  Extra : (router vif lan : ℕ) → Reason
  -- tree: this LAN's rank isn't one more than that of the LAN that its copies come from
  WrongRank : (lan : ℕ) → Reason
  -- tree: this LAN's rank is right, but its need isn't the greater of two numbers: the need of the
  -- LAN that its copies come from, and that LAN's rank with the threshold and one more
  WrongNeed : (lan : ℕ) → Reason
  -- fed: no live pair of the forwarder sends onto this LAN
  Unfed : (lan : ℕ) → Reason
  -- served: this LAN wants the flow and isn't named
  Missed : (lan : ℕ) → Reason
  -- served: this LAN wants the flow, and is named with a need above the flow's TTL
  Low : (lan : ℕ) → Reason

-- ---- the first of several

-- the first reason, if there is one, or else the second
infixr 30 ◌then◌
abbrev pub ◌then◌ : Option Reason → Option Reason → Option Reason
(Some first) then second = Some first
None then second = second

-- the reason, unless the test passes
abbrev pub unless : Bool → Reason → Option Reason
unless true reason = None
unless false reason = Some reason

-- the first reason that any of these gives, in the list's order
abbrev pub first_of : {A : Type 0} → (A → Option Reason) → List A → Option Reason
first_of reason_of [] = None
first_of reason_of (x ∷ xs) = reason_of x then first_of reason_of xs

-- the first entry of the LAN, if there is one
abbrev pub entry_on : List Entry → ℕ → Option Entry
entry_on [] lan = None
entry_on (entry ∷ entries) lan = if entry.lan == lan then Some entry else entry_on entries lan

-- the first entry of the LAN that a vif is placed on, if it is placed and there is one
abbrev pub entry_at : List Entry → Option ℕ → Option Entry
entry_at entries None = None
entry_at entries (Some lan) = entry_on entries lan

-- ---- one entry

-- the first of these entries whose LAN one before it names, after the `earlier` entries
abbrev pub twice : List Entry → List Entry → Option Reason
twice earlier [] = None
twice earlier (entry ∷ entries) =
    unless (not (is_some (entry_on earlier entry.lan))) (TwoEntries entry.lan)
    then twice (earlier ++ entry ∷ []) entries

-- ---- source entry

-- whether the entry is as that of the source's LAN has to be: with rank 0, need 1 and no forwarder
abbrev pub is_source_entry : Option Entry → Bool
is_source_entry None = false
is_source_entry (Some entry) = (entry.rank == 0) && ((entry.need == 1) && not (is_some entry.forwarder))

-- whether the source's LAN has such an entry, and every other entry a forwarder
abbrev pub has_source : Net → List Entry → Bool
has_source net entries =
    is_source_entry (entry_on entries net.source)
    && list_all (λ entry. (entry.lan == net.source) || is_some entry.forwarder) entries

-- ---- no wildcard, no stray and tree, of one router

-- What is wrong with a pair of the router that sends onto LAN `onto`, where its row takes from the
-- LAN of the entry `parent`, by the entry that LAN `onto` has.
abbrev pub child_reason : Entry → ℕ → ℕ × ℕ → ℕ → Option Entry → Option Reason
child_reason parent router pair onto None = Some (Extra router pair.0 onto)
child_reason parent router pair onto (Some entry) =
    unless (is_sender entry.forwarder (router, pair.0)) (Extra router pair.0 onto)
    then unless (entry.rank == parent.rank + 1) (WrongRank onto)
    then unless (entry.need == max parent.need (parent.rank + pair.1 + 1)) (WrongNeed onto)

-- what is wrong with a live pair of the router, by the LAN on which its vif is placed
abbrev pub onto_reason : List Entry → Entry → ℕ → ℕ × ℕ → Option ℕ → Option Reason
onto_reason entries parent router pair None = Some (Stray router pair.0)
onto_reason entries parent router pair (Some onto) =
    child_reason parent router pair onto (entry_on entries onto)

-- what is wrong with a pair of the router; only a live one is checked
abbrev pub pair_reason : Net → List Entry → Entry → ℕ → ℕ × ℕ → Option Reason
pair_reason net entries parent router pair =
    if is_live parent.rank pair.1
    then onto_reason entries parent router pair (net.placed router pair.0)
    else None

-- what is wrong with a row's pairs, where the row takes from the LAN of an entry; other rows aren't
-- checked
abbrev pub pairs_reason :
    Net → List Entry → ℕ → List (ℕ × ℕ) → Option Entry → Option Reason
pairs_reason net entries router pairs None = None
pairs_reason net entries router pairs (Some parent) = first_of (pair_reason net entries parent router) pairs

-- what is wrong with the vif of the router, whose row is open: it is placed on a named LAN
abbrev pub open_row_reason : Net → List Entry → ℕ → ℕ → Option Reason
open_row_reason net entries router vif =
    unless (not (is_some (entry_at entries (net.placed router vif)))) (Wildcard router vif)

-- what is wrong with a router's row
abbrev pub row_reason : Net → List Entry → ℕ → Row → Option Reason
row_reason net entries router Open = first_of (open_row_reason net entries router) (below 32)
row_reason net entries router NoRow = None
row_reason net entries router (Exact incoming pairs) =
    pairs_reason net entries router pairs (entry_at entries (net.placed router incoming))

-- ---- fed, of one entry

-- whether the vif has a live pair in a row that takes from the LAN of this entry
abbrev pub feeds_from : ℕ → List (ℕ × ℕ) → Option Entry → Bool
feeds_from vif pairs None = false
feeds_from vif pairs (Some parent) =
    list_any (λ pair. (pair.0 == vif) && is_live parent.rank pair.1) pairs

-- whether the vif of the router has a live pair, and the router's row takes from a named LAN
abbrev pub row_feeds : Net → List Entry → ℕ → ℕ → Row → Bool
row_feeds net entries router vif (Exact incoming pairs) =
    feeds_from vif pairs (entry_at entries (net.placed router incoming))
row_feeds net entries router vif Open = false
row_feeds net entries router vif NoRow = false

-- whether an entry of the LAN has no forwarder, or one that is placed on the LAN and has a live
-- pair in a row that takes from a named LAN
abbrev pub is_fed : Net → List Entry → ℕ → Option Interface → Bool
is_fed net entries lan None = true
is_fed net entries lan (Some interface) =
    row_feeds net entries interface.0 interface.1 (net.row interface.0)
    && is_lan (net.placed interface.0 interface.1) lan

-- ---- served, of one LAN

-- what is wrong with the wanting LAN, by its entry
abbrev pub need_reason : ℕ → ℕ → Option Entry → Option Reason
need_reason ttl lan None = Some (Missed lan)
need_reason ttl lan (Some entry) = unless (not (nat_lt ttl entry.need)) (Low lan)

-- what is wrong with the LAN, if it wants the flow
abbrev pub lan_reason : Net → List Entry → ℕ → Option Reason
lan_reason net entries lan = if net.wants lan then need_reason net.ttl lan (entry_on entries lan) else None

-- ---- all conditions: entries, routers and LANs in order, the LANs numbered below the count

-- the first reason why the entries don't certify the flow, where LANs are numbered below the count
abbrev pub first_reason : Net → ℕ → List Entry → Option Reason
first_reason net count entries =
    twice [] entries
    then unless (has_source net entries) BadSource
    then first_of (λ router. row_reason net entries router (net.row router)) (below net.routers)
    then first_of (λ entry. unless (is_fed net entries entry.lan entry.forwarder) (Unfed entry.lan)) entries
    then first_of (lan_reason net entries) (below count)
