-- The certificate that a clean travel of a packet with TTL 255 makes: an entry for each copy that
-- LANs carried, in the order in which they did. A copy comes after the one that it was sent on
-- from.
use Rattle.std.specs.Prelude.{ℕ, ◌+◌, ◌-◌, max, ◌==◌, if◌then◌else◌}
use Rattle.std.specs.Prelude.{List, [], ◌∷◌, ◌++◌, Option, Some, None}
use Rattle.mc_theory.specs.Nets.{Net, Row, Interface}
use Rattle.mc_theory.specs.Nets.Row.{Exact, Open, NoRow}
use Rattle.mc_theory.specs.Flights.{Copy, Flight}
use Rattle.mc_theory.specs.Certificates.{Entry, IsAccepted}
use Rattle.mc_theory.specs.Reasons.{entry_at}
use Rattle.mc_theory.specs.Findings.{from_lan}

-- the threshold of a vif among these pairs; 0 if it has none
abbrev pub threshold_of : ℕ → List (ℕ × ℕ) → ℕ
threshold_of vif [] = 0
threshold_of vif (pair ∷ pairs) = if pair.0 == vif then pair.1 else threshold_of vif pairs

-- the pairs of a row; only an (S,G) entry has any
abbrev pub row_pairs : Row → List (ℕ × ℕ)
row_pairs (Exact incoming pairs) = pairs
row_pairs Open = []
row_pairs NoRow = []

-- the need of a LAN that is reached from the LAN of an entry, by a pair with this threshold; 1
-- without such an entry
abbrev pub need_over : ℕ → Option Entry → ℕ
need_over threshold None = 1
need_over threshold (Some parent) = max parent.need (parent.rank + threshold + 1)

-- The need of a copy's LAN, by the copy's sender, after the entries of the earlier copies: 1 for
-- the source's copy, and for another the greater of the need of the LAN that its sender took it
-- from, and of what passes the threshold there.
abbrev pub need_after : Net → List Entry → Option Interface → ℕ
need_after net entries None = 1
need_after net entries (Some sender) =
    need_over (threshold_of sender.1 (row_pairs (net.row sender.0)))
    (entry_at entries (from_lan net (Some sender)))

-- a copy's entry, after those of the earlier copies; its rank is what its TTL has lost since 255
abbrev pub entry_after : Net → List Entry → Copy → Entry
entry_after net entries copy = record {
  lan = copy.lan;
  rank = 255 - copy.ttl;
  need = need_after net entries copy.sender;
  forwarder = copy.sender;
}

-- the entries of the earlier copies, and then those of these copies
abbrev pub entries_after : Net → List Entry → List Copy → List Entry
entries_after net entries [] = entries
entries_after net entries (copy ∷ copies) =
    entries_after net (entries ++ entry_after net entries copy ∷ []) copies

-- the entries of the carried copies
abbrev pub entries_of : Net → List Copy → List Entry
entries_of net copies = entries_after net [] copies

-- The entries of the flight's carried copies certify the flow.
abbrev pub IsCertifiedBy : Net → Flight → Type 0
IsCertifiedBy net flight = IsAccepted net (entries_of net flight.carried)
