-- A row with a new name or address is added last, section by section.
use Rattle.std.proofs.Common.{◌≡◌, ℕ, false, List, [], ◌∷◌, ◌++◌, map}
use Rattle.std.specs.Prelude.{◌==◌, nat_eq, String, string_bytes}
use Rattle.std.specs.Str.{bytes_eq}
use Rattle.std.specs.String.{string_eq}
use Rattle.mc_text.specs.declared.text.addr.Order.{Order}
use Rattle.indexmap.specs.IndexMap.{IndexMap, insert_entry}
use Rattle.indexmap.specs.IndexSet.{insert_key}
use Rattle.mc_topology.specs.Lans.{has_lan}
use Rattle.mc_topology.specs.Lookup.{has_router}
use Rattle.mc_topology.specs.SectionRows.{RouterRow, SourceRow, router_row, source_row}
use Rattle.mc_topology.specs.Sources.{has_source}
use Rattle.mc_topology.proofs.Keyed.{bytes_eq-flip, nat_eq-flip, rows-insert_new_key, rows-insert_new_entry}

-- ---- a test of a key is a test of its row

-- of a LAN, by its name,
pub bytes_eq-lan_name : {A : Type 0} (name : List ℕ) (k : String A)
    → bytes_eq name (string_bytes k) ≡ bytes_eq (string_bytes k) name
bytes_eq-lan_name name k = bytes_eq-flip name (string_bytes k)

-- of a router, by its name,
pub bytes_eq-router_row : {A : Type 0} (name : List ℕ) (e : String A × Order)
    → bytes_eq name (string_bytes e.0) ≡ bytes_eq (router_row e).name name
bytes_eq-router_row name e = bytes_eq-flip name (string_bytes e.0)

-- and of a source, by its address
pub nat_eq-source_row : (address : ℕ) (e : ℕ × ℕ)
    → (address == e.0) ≡ ((source_row e).address == address)
nat_eq-source_row address e = nat_eq-flip address e.0

-- ---- rows that are added

-- a LAN with a new name is added last,
pub lan_names-insert_new : {A : Type 0} (ks : List (String A)) (k : String A) (old : List (List ℕ))
    (name : List ℕ)
    → map string_bytes ks ≡ old → string_bytes k ≡ name → has_lan name old ≡ false
    → map string_bytes (insert_key string_eq ks k) ≡ old ++ name ∷ []
lan_names-insert_new ks k old name kept is new =
    let unknown = rw (← kept, ← is) at new in
    let pushed =
    rows-insert_new_key string_bytes string_eq (λ x. bytes_eq x (string_bytes k)) ks k
    (bytes_eq-lan_name (string_bytes k)) unknown in
    rw (← kept, ← is) pushed

-- a router with a new name,
pub router_rows-insert_new : {A S : Type 0} (m : IndexMap (String A) Order S) (k : String A) (order : Order)
    (old : List RouterRow) (name : List ℕ) → map router_row m.entries ≡ old → string_bytes k ≡ name
    → has_router name old ≡ false
    → map router_row (insert_entry string_eq m.entries k order)
    ≡ old ++ (record { name = name; order = order }) ∷ []
router_rows-insert_new m k order old name kept is new =
    let unknown = rw (← kept, ← is) at new in
    let pushed =
    rows-insert_new_entry router_row string_eq (λ r. bytes_eq r.name (string_bytes k)) m k order
    (bytes_eq-router_row (string_bytes k)) unknown in
    rw (← kept, ← is) pushed

-- and a source with a new address
pub source_rows-insert_new : {S : Type 0} (m : IndexMap ℕ ℕ S) (address lan : ℕ) (old : List SourceRow)
    → map source_row m.entries ≡ old → has_source address old ≡ false
    → map source_row (insert_entry nat_eq m.entries address lan)
    ≡ old ++ (record { address = address; lan = lan }) ∷ []
source_rows-insert_new m address lan old kept new =
    let unknown = rw (← kept) at new in
    let pushed =
    rows-insert_new_entry source_row nat_eq (λ s. s.address == address) m address lan
    (nat_eq-source_row address) unknown in
    rw (← kept) pushed
