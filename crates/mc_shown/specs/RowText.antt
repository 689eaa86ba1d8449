-- How an audit prints a router's devices and entries, with the names of the topology and of the vif tables
-- (docs/FORMATS.md, the section "The program").
use Rattle.std.specs.Prelude.{ℕ, ◌+◌, ◌/◌, ◌%◌, ◌==◌, ◌&&◌, not, nat_le, Bool, List, [], ◌∷◌, ◌++◌, Option}
use Rattle.std.specs.Prelude.{Some, None, if◌then◌else◌, codes, decimal, flat_map}
use Rattle.mc_text.specs.Addr.{dotted}
use Rattle.mc_tables.specs.VifTable.{VifValue, has_device}
use Rattle.mc_topology.specs.declared.flow.Flow.{Flow}
use Rattle.mc_topology.specs.Topology.{flow_at, router_name}
use Rattle.mc_theory.specs.Nets.{Row}
use Rattle.mc_theory.specs.Nets.Row.{Exact, Open, NoRow}
use Rattle.mc_forward.specs.ListedTables.{DomainFacts}

-- ---- devices

-- a lowercase hexadecimal digit
abbrev pub hex_digit_of : ℕ → ℕ
hex_digit_of digit = if nat_le digit 9 then 48 + digit else 87 + digit

-- whether a byte is written as it is: 0x21 to 0x7e, but not the backslash
abbrev pub is_plain : ℕ → Bool
is_plain byte = (nat_le 0x21 byte && nat_le byte 0x7e) && not (byte == 0x5c)

-- a byte of a device's name; one that isn't plain is written `\xhh`
abbrev pub byte_text : ℕ → List ℕ
byte_text byte =
    if is_plain byte
    then byte ∷ []
    else codes "\\x" ++ (hex_digit_of (byte / 16) ∷ hex_digit_of (byte % 16) ∷ [])

-- the name of a device
abbrev pub device_name_text : List ℕ → List ℕ
device_name_text name = flat_map byte_text name

-- a vif by its number, such as `vif/3`
abbrev pub vif_number_text : ℕ → List ℕ
vif_number_text vif = codes "vif/" ++ decimal vif

-- a vif by its device, or by its number if the vif table has no line for it or no device
abbrev pub device_text_of : (vif : ℕ) → Option VifValue → List ℕ
device_text_of vif None = vif_number_text vif
device_text_of vif (Some v) =
    if has_device v then device_name_text v.device else vif_number_text vif

-- the device of a router's vif, such as `eth1`
abbrev pub device_text : DomainFacts → (router vif : ℕ) → List ℕ
device_text domain router vif = device_text_of vif (domain.vifs router vif)

-- ---- rows

-- What is made of a row's incoming vif and of its pairs of an outgoing vif and a threshold, where it is an
-- (S,G) entry; `otherwise` where it is none.
abbrev pub of_entry_or : {A : Type 0} → (otherwise : A) → (ℕ → List (ℕ × ℕ) → A) → Row → A
of_entry_or otherwise make (Exact incoming pairs) = make incoming pairs
of_entry_or otherwise make Open = otherwise
of_entry_or otherwise make NoRow = otherwise

-- an outgoing vif of an entry, with its threshold if that isn't 1
abbrev pub oif_text : DomainFacts → (router : ℕ) → ℕ × ℕ → List ℕ
oif_text domain router pair =
    codes " " ++ (device_text domain router pair.0
    ++ (if pair.1 == 1 then [] else codes ":" ++ decimal pair.1))

-- the outgoing vifs of an entry, or that there are none
abbrev pub oifs_text : DomainFacts → (router : ℕ) → List (ℕ × ℕ) → List ℕ
oifs_text domain router [] = codes " none"
oifs_text domain router (pair ∷ pairs) = flat_map (oif_text domain router) (pair ∷ pairs)

-- an entry's source or group; `*`, every one, for 0.0.0.0
abbrev pub address_text : ℕ → List ℕ
address_text address = if address == 0 then codes "*" else dotted address

-- an entry, such as `entry (10.0.0.5,239.1.2.3) from eth0 to eth1 eth2:5 in cache-r1`
abbrev pub entry_text : DomainFacts → (router source group incoming : ℕ) → List (ℕ × ℕ) → List ℕ
entry_text domain router source group incoming pairs =
    codes "entry (" ++ (address_text source ++ (codes "," ++ (address_text group
    ++ (codes ") from " ++ (device_text domain router incoming
    ++ (codes " to" ++ (oifs_text domain router pairs
    ++ (codes " in cache-" ++ router_name domain.topology router))))))))

-- the (S,G) entry that is a router's row for a flow; nothing for another row
abbrev pub row_text : DomainFacts → Flow → (router : ℕ) → Row → List ℕ
row_text domain flow router row = of_entry_or [] (entry_text domain router flow.source flow.group) row

-- the (S,G) entry that is a router's row for the flow with this number; nothing for another row
abbrev pub flow_row_text : DomainFacts → (flow router : ℕ) → List ℕ
flow_row_text domain flow router = row_text domain (flow_at domain.topology flow) router
    ((domain.nets flow).row router)

-- the device of a row's incoming vif; nothing for a row without one
abbrev pub incoming_text : DomainFacts → (router : ℕ) → Row → List ℕ
incoming_text domain router row = of_entry_or [] (λ incoming pairs. device_text domain router incoming) row
