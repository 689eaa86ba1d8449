-- What a text of /proc/net/ip_mr_vif denotes: vifs by their indexes. The kernel prints a line in
-- ipmr_vif_seq_show of net/ipv4/ipmr.c, by "%2td %-10s %8ld %7ld  %8ld %7ld %05X %08X %08X\n".
use Rattle.std.specs.Prelude.{◌≡◌, ℕ, ◌≤◌, ◌==◌, nat_eq, Bool, not, bit_and, IsTrue, List, [], ◌∷◌, map}
use Rattle.std.specs.Prelude.{Option, Some, None, if◌then◌else◌, codes, refl}
use Rattle.std.specs.List.{IsDistinct, AllByRecursion, filter_map}
use Rattle.std.specs.Ordering.{nat_cmp}
use Rattle.std.specs.Str.{bytes_eq}
use Rattle.std.specs.Str.Parse.{digits_value}
use Rattle.std.specs.Coded.{Coded, code_by, coded×, coded_list, coded_ℕ, coded_bool}
use Rattle.std.specs.FinMap.{FinMap, from_entries}
use Rattle.mc_text.specs.Lines.{LineText}
use Rattle.mc_text.specs.Lines.{words_of}
use Rattle.mc_text.specs.Names.{is_device_name}
use Rattle.mc_tables.specs.TableWords.{is_counter, is_hexadecimal, WordDenotesNumber}
use Rattle.mc_tables.specs.TableLines.{HasHeader, EachDenotes}

-- a vif: its device, and whether it is a tunnel or the register vif
pub record VifValue : Type 0 where
  pub device : List ℕ
  pub tunnel : Bool
  pub register : Bool

-- a vif is stored as its fields
abbrev pub vif_code : Coded VifValue
vif_code =
    code_by (List ℕ × (Bool × Bool)) (coded× (coded_list coded_ℕ) (coded× coded_bool coded_bool))
    (λ vif. (vif.device, (vif.tunnel, vif.register)))
    (λ stored. record { device = stored.0; tunnel = stored.1.0; register = stored.1.1 }) (λ _. refl)

-- whether the flags of a vif have VIFF_TUNNEL, 0x1 (include/uapi/linux/mroute.h)
abbrev pub is_tunnel : ℕ → Bool
is_tunnel flags = not (bit_and flags 0x1 == 0)

-- whether the flags of a vif have VIFF_REGISTER, 0x4 (include/uapi/linux/mroute.h)
abbrev pub is_register : ℕ → Bool
is_register flags = not (bit_and flags 0x4 == 0)

-- the kernel's word for a vif without a device, which is no device's name here
abbrev pub no_device : List ℕ
no_device = codes "none"

-- whether the vif has a device
abbrev pub has_device : VifValue → Bool
has_device vif = not (bytes_eq vif.device no_device)

-- the word denotes the flags of the vif in hexadecimal (`%05X`); other flags are allowed, and not
-- used
pub record WordDenotesFlags (word : List ℕ) (vif : VifValue) : Type 0 where
  pub digits : IsTrue (is_hexadecimal 5 8 word)
  pub tunnel : vif.tunnel ≡ is_tunnel (digits_value 16 word)
  pub register : vif.register ≡ is_register (digits_value 16 word)

-- Nine words denote a vif with its index: index, device, bytes in, packets in, bytes out, packets
-- out, flags, local address (or the index of an interface) and remote address.
abbrev pub WordsDenoteVif : List (List ℕ) → ℕ × VifValue → Type 0
WordsDenoteVif (index ∷ device ∷ bytes_in ∷ packets_in ∷ bytes_out ∷ packets_out ∷ flags ∷ local
    ∷ remote ∷ []) row =
    WordDenotesNumber 0 31 index row.0 × (IsTrue (is_device_name device) × (row.1.device ≡ device))
    × IsTrue (is_counter bytes_in) × IsTrue (is_counter packets_in)
    × IsTrue (is_counter bytes_out) × IsTrue (is_counter packets_out)
    × WordDenotesFlags flags row.1
    × IsTrue (is_hexadecimal 8 8 local) × IsTrue (is_hexadecimal 8 8 remote)
WordsDenoteVif words row = ⊥

-- a line denotes a vif with its index by its words, and a line feed ends it
pub record LineDenotesVif (line : LineText) (row : ℕ × VifValue) : Type 0 where
  pub ended : IsTrue line.ended
  pub words : WordsDenoteVif (words_of line.bytes) row

-- the device of a row's vif, if it has one
abbrev pub device_of : ℕ × VifValue → Option (List ℕ)
device_of row = if bytes_eq row.1.device no_device then None else Some row.1.device

-- the rules of the rows of every table: indexes are 0 to 31, and no two rows have the same index,
-- or the same device if they have one
abbrev pub AreValidVifRows : List (ℕ × VifValue) → Type 0
AreValidVifRows rows =
    IsDistinct nat_eq (map (λ row. row.0) rows)
    × IsDistinct bytes_eq (filter_map device_of rows)
    × AllByRecursion (λ row. row.0 ≤ 31) rows

-- a text denotes these vifs with their indexes, in the order of its lines; no two have the same
-- index, or the same device if they have one
pub record DenotesVifRows (text : List ℕ) (rows : List (ℕ × VifValue)) : Type 0 where
  pub lines : List LineText
  pub header : HasHeader (codes "Interface") text lines
  pub denoted : EachDenotes LineDenotesVif lines rows
  pub indexes_differ : IsDistinct nat_eq (map (λ row. row.0) rows)
  pub devices_differ : IsDistinct bytes_eq (filter_map device_of rows)

-- a text denotes vifs by their indexes: those of its rows
pub record DenotesVifs (text : List ℕ) (vifs : FinMap nat_cmp VifValue) : Type 0 where
  pub rows : List (ℕ × VifValue)
  pub lines : DenotesVifRows text rows
  pub as_map : vifs ≡ from_entries rows
