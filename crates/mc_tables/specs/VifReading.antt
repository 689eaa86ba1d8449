-- What a text of /proc/net/ip_mr_vif is read as, from its front: its vifs, or the first fault.
-- Faults have the order of docs/FORMATS.md.
use Rattle.std.specs.Prelude.{ℕ, nat_eq, Bool, not, if◌then◌else◌, List, [], ◌∷◌, map, Result, Ok}
use Rattle.std.specs.Prelude.{Err, codes}
use Rattle.std.specs.Option.{ok_or}
use Rattle.std.specs.List.{list_any, filter_map}
use Rattle.std.specs.Ordering.{nat_cmp}
use Rattle.std.specs.Str.{bytes_eq}
use Rattle.std.specs.Str.Parse.{digits_value}
use Rattle.std.specs.FinMap.{FinMap, from_entries}
use Rattle.mc_text.specs.Lines.{LineText}
use Rattle.mc_text.specs.Lines.{words_of}
use Rattle.mc_text.specs.Names.{is_device_name}
use Rattle.mc_tables.specs.declared.fault.TableFault.{TableFault}
use Rattle.mc_tables.specs.declared.fault.TableFaultKind.{TableFaultKind}
use Rattle.mc_tables.specs.declared.fault.TableFaultKind.TheVariants.{Unended, WordCount, BadIndex}
use Rattle.mc_tables.specs.declared.fault.TableFaultKind.TheVariants.{BadDevice, BadCounter}
use Rattle.mc_tables.specs.declared.fault.TableFaultKind.TheVariants.{BadFlags, BadAddress}
use Rattle.mc_tables.specs.declared.fault.TableFaultKind.TheVariants.{RepeatedIndex, RepeatedDevice}
use Rattle.mc_text.specs.Steps.{◌>>=◌}
use Rattle.mc_tables.specs.Steps.{demand, at_line}
use Rattle.mc_tables.specs.TableWords.{is_counter, is_hexadecimal, number_in}
use Rattle.mc_tables.specs.TableLines.{is_among, lines_in, rows_after}
use Rattle.mc_tables.specs.VifTable.{VifValue, is_tunnel, is_register, device_of}

-- the word, which has to be a device's name
abbrev pub device_in : List ℕ → Result (List ℕ) TableFaultKind
device_in word = if is_device_name word then Ok word else Err BadDevice

-- the flags that the word denotes: five to eight hexadecimal digits
abbrev pub flags_in : List ℕ → Result ℕ TableFaultKind
flags_in word = if is_hexadecimal 5 8 word then Ok (digits_value 16 word) else Err BadFlags

-- the index and the vif that the words of a line are read as, from the left
unfoldable pub vif_in_words : List (List ℕ) → Result (ℕ × VifValue) TableFaultKind
vif_in_words (index ∷ device ∷ bytes_in ∷ packets_in ∷ bytes_out ∷ packets_out ∷ flags ∷ local
    ∷ remote ∷ []) = do
      i ← ok_or (number_in 0 31 index) BadIndex
      name ← device_in device
      _ ← demand (is_counter bytes_in) BadCounter
      _ ← demand (is_counter packets_in) BadCounter
      _ ← demand (is_counter bytes_out) BadCounter
      _ ← demand (is_counter packets_out) BadCounter
      bits ← flags_in flags
      _ ← demand (is_hexadecimal 8 8 local) BadAddress
      _ ← demand (is_hexadecimal 8 8 remote) BadAddress
      Ok (i, record { device = name; tunnel = is_tunnel bits; register = is_register bits })
vif_in_words words = Err WordCount

-- whether an earlier row has the index
abbrev pub index_repeats : List (ℕ × VifValue) → ℕ × VifValue → Bool
index_repeats earlier row = list_any (nat_eq row.0) (map (λ other. other.0) earlier)

-- whether the vif has a device, and an earlier row has it too
abbrev pub device_repeats : List (ℕ × VifValue) → ℕ × VifValue → Bool
device_repeats earlier row = is_among bytes_eq (device_of row) (filter_map device_of earlier)

-- the index and the vif of a line that comes after the earlier ones
unfoldable pub vif_in_line : List (ℕ × VifValue) → LineText → Result (ℕ × VifValue) TableFaultKind
vif_in_line earlier line = do
  _ ← demand line.ended Unended
  row ← vif_in_words (words_of line.bytes)
  _ ← demand (not (index_repeats earlier row)) RepeatedIndex
  _ ← demand (not (device_repeats earlier row)) RepeatedDevice
  Ok row

-- that index and vif, or the fault at the line
abbrev pub vif_at_line : List (ℕ × VifValue) → LineText → Result (ℕ × VifValue) TableFault
vif_at_line earlier line = at_line line.number (vif_in_line earlier line)

-- the vifs of a text with their indexes, in the order of its lines, or the first fault
abbrev pub vif_rows_in : List ℕ → Result (List (ℕ × VifValue)) TableFault
vif_rows_in text = lines_in (codes "Interface") text >>= rows_after vif_at_line []

-- the vifs of a text by their indexes, or the first fault
abbrev pub vifs_in : List ℕ → Result (FinMap nat_cmp VifValue) TableFault
vifs_in text = vif_rows_in text >>= λ rows. Ok (from_entries rows)
