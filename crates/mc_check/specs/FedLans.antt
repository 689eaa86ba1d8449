-- Which LANs' entries are known to be fed, by a mark for each LAN. Only contracts inside this crate use
-- these definitions.
use Rattle.std.specs.Prelude.{◌≡◌, ◌⊎◌, ℕ, Bool, true, false, List, Some, None, slice_index_or}
use Rattle.mc_theory.specs.Nets.{Net}
use Rattle.mc_theory.specs.Certificates.{Entry}
use Rattle.mc_theory.specs.Reasons.{entry_on, is_fed}

-- the LAN with this number is marked
abbrev pub IsMarkedFed : (marks : List Bool) → (lan : ℕ) → Type 0
IsMarkedFed marks lan = slice_index_or marks lan false ≡ true

-- the first entry of each marked LAN is fed
abbrev pub AreFed : Net → List Entry → (marks : List Bool) → Type 0
AreFed net entries marks = (lan : ℕ) (entry : Entry) → IsMarkedFed marks lan
    → entry_on entries lan ≡ Some entry → is_fed net entries entry.lan entry.forwarder ≡ true

-- the entry has no forwarder, or its LAN is marked
abbrev pub NeedsNoFeedOrIsMarked : (marks : List Bool) → Entry → Type 0
NeedsNoFeedOrIsMarked marks entry = (entry.forwarder ≡ None) ⊎ IsMarkedFed marks entry.lan
