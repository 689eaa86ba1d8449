-- Certificate entries that are kept by the numbers of their LANs, and the entry of a carried copy that is
-- made with them, as CertificateOfCopies of mc_theory makes it from a list.
use Rattle.std.specs.Prelude.{ℕ, ◌-◌, Bool, not, ◌||◌, nat_le, List, [], ◌∷◌, Option}
use Rattle.std.specs.Prelude.{Some, None}
use Rattle.mc_theory.specs.Nets.{Net, Interface}
use Rattle.mc_theory.specs.Flights.{Copy}
use Rattle.mc_theory.specs.Certificates.{Entry}
use Rattle.mc_theory.specs.Findings.{from_lan}
use Rattle.mc_theory.specs.CertificateOfCopies.{need_over, row_pairs, threshold_of}
use Rattle.mc_forward.specs.PerLan.{item_on_lan, HoldsFirstOfEachKey}

-- Each place of `by_lan` holds the first of these entries for the LAN with the place's number, if there is
-- one.
abbrev pub AreEntriesByLan : List (Option Entry) → List Entry → Type 0
AreEntriesByLan by_lan entries = HoldsFirstOfEachKey (λ (entry : Entry). entry.lan) by_lan entries

-- the entry that is held for a LAN; none for no LAN
abbrev pub held_entry_at : List (Option Entry) → Option ℕ → Option Entry
held_entry_at by_lan None = None
held_entry_at by_lan (Some lan) = item_on_lan by_lan lan

-- the held entries, in the order of their places
abbrev pub held_entries : List (Option Entry) → List Entry
held_entries [] = []
held_entries (None ∷ places) = held_entries places
held_entries (Some entry ∷ places) = entry ∷ held_entries places

-- the need of a copy that this interface sent, by the held entry of the LAN that it took it from; 1 for the
-- source's copy
abbrev pub need_by_held_entries : Net → List (Option Entry) → Option Interface → ℕ
need_by_held_entries net by_lan None = 1
need_by_held_entries net by_lan (Some interface) =
    need_over (threshold_of interface.1 (row_pairs (net.row interface.0)))
    (held_entry_at by_lan (from_lan net (Some interface)))

-- a copy's entry, by the held entries: its rank is 255 less its TTL
abbrev pub entry_by_held_entries : Net → List (Option Entry) → Copy → Entry
entry_by_held_entries net by_lan copy = record {
  lan = copy.lan;
  rank = 255 - copy.ttl;
  need = need_by_held_entries net by_lan copy.sender;
  forwarder = copy.sender;
}

-- whether the flow's TTL meets the entry's need, or the entry's LAN doesn't want the flow
abbrev pub serves : Net → Entry → Bool
serves net entry = nat_le entry.need net.ttl || not (net.wants entry.lan)
