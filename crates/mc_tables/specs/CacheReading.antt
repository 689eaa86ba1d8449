-- What a text of /proc/net/ip_mr_cache is read as, from its front: its table, or the first fault.
-- Faults have the order of docs/FORMATS.md.
use Rattle.std.specs.Prelude.{ℕ, ◌==◌, nat_eq, nat_lt, Bool, not, if◌then◌else◌, List, [], ◌∷◌}
use Rattle.std.specs.Prelude.{length, map, Option, Some, None, Result, Ok, Err, codes}
use Rattle.std.specs.Option.{ok_or}
use Rattle.std.specs.List.{list_any, filter_map, slice_split}
use Rattle.std.specs.FinMap.{from_entries}
use Rattle.std.specs.Str.{bytes_eq}
use Rattle.mc_text.specs.declared.text.addr.Order.{Order}
use Rattle.mc_text.specs.Lines.{LineText, words_of}
use Rattle.mc_tables.specs.declared.cache.entry.Oif.{Oif}
use Rattle.mc_tables.specs.CacheTable.{EntryValue}
use Rattle.mc_tables.specs.declared.fault.TableFault.{TableFault}
use Rattle.mc_tables.specs.declared.fault.TableFaultKind.{TableFaultKind}
use Rattle.mc_tables.specs.declared.fault.TableFaultKind.TheVariants.{Unended, WordCount}
use Rattle.mc_tables.specs.declared.fault.TableFaultKind.TheVariants.{BadCounter, BadAddress}
use Rattle.mc_tables.specs.declared.fault.TableFaultKind.TheVariants.{BadIif, BadOif, BadThreshold}
use Rattle.mc_tables.specs.declared.fault.TableFaultKind.TheVariants.{RepeatedOif, RepeatedEntry}
use Rattle.mc_tables.specs.declared.fault.TableFaultKind.TheVariants.{TooLarge}
use Rattle.mc_text.specs.Steps.{◌>>=◌}
use Rattle.mc_tables.specs.Steps.{demand, at_line}
use Rattle.mc_tables.specs.TableWords.{is_counter, number_in, address_in}
use Rattle.mc_tables.specs.TableLines.{is_among, lines_in, rows_after}
use Rattle.mc_tables.specs.CacheTable.{RowValue, CacheValue, oifs_by_vif, same_key, key_of, table_of}

-- ---- the outgoing words

-- the vif and the threshold that the parts of a word around its colons write, where there has to be
-- one colon
unfoldable pub oif_in_parts : List (List ℕ) → Result (ℕ × ℕ) TableFaultKind
oif_in_parts (vif ∷ threshold ∷ []) = do
  vif_number ← ok_or (number_in 0 31 vif) BadOif
  threshold_number ← ok_or (number_in 1 254 threshold) BadThreshold
  Ok (vif_number, threshold_number)
oif_in_parts parts = Err BadOif

-- the vif and the threshold of a word `n:t`
abbrev pub oif_in : List ℕ → Result (ℕ × ℕ) TableFaultKind
oif_in word = oif_in_parts (slice_split (λ byte. byte == 58) word)

-- whether an earlier word has the vif
abbrev pub oif_repeats : List (ℕ × ℕ) → ℕ × ℕ → Bool
oif_repeats earlier oif = list_any (nat_eq oif.0) (map (λ other. other.0) earlier)

-- the vif and the threshold of a word that comes after the earlier ones
abbrev pub oif_after : List (ℕ × ℕ) → List ℕ → Result (ℕ × ℕ) TableFaultKind
oif_after earlier word = do
  oif ← oif_in word
  _ ← demand (not (oif_repeats earlier oif)) RepeatedOif
  Ok oif

-- the outgoing vifs of the words, ascending
abbrev pub oifs_in : List (List ℕ) → Result (List Oif) TableFaultKind
oifs_in words = rows_after oif_after [] words >>= λ denoted. Ok (oifs_by_vif (from_entries denoted))

-- ---- a line

-- the incoming vif, which has to be a number
abbrev pub incoming_number : Option ℕ → Result (Option ℕ) TableFaultKind
incoming_number None = Err BadIif
incoming_number (Some iif) = Ok (Some iif)

-- the incoming vif of a word; none for `-1`, in an unresolved row
abbrev pub incoming_in : List ℕ → Result (Option ℕ) TableFaultKind
incoming_in word =
    if bytes_eq word (codes "-1") then Ok None else incoming_number (number_in 0 31 word)

-- the entry of an incoming vif and of the words for the outgoing ones; none without an incoming
-- vif, where no such word may be there
abbrev pub entry_in : Option ℕ → List (List ℕ) → Result (Option EntryValue) TableFaultKind
entry_in None [] = Ok None
entry_in None (word ∷ words) = Err BadOif
entry_in (Some iif) words = oifs_in words >>= λ oifs. Ok (Some (record { iif = iif; oifs = oifs }))

-- the row that the words of a line are read as, from the left
unfoldable pub row_in_words : Order → List (List ℕ) → Result RowValue TableFaultKind
row_in_words order (group ∷ origin ∷ iif ∷ packets ∷ bytes ∷ wrong_if ∷ outgoing) = do
  group_address ← ok_or (address_in order group) BadAddress
  origin_address ← ok_or (address_in order origin) BadAddress
  incoming ← incoming_in iif
  _ ← demand (is_counter packets) BadCounter
  _ ← demand (is_counter bytes) BadCounter
  _ ← demand (is_counter wrong_if) BadCounter
  entry ← entry_in incoming outgoing
  Ok (record { group = group_address; origin = origin_address; entry = entry })
row_in_words order words = Err WordCount

-- whether the row is an (S,G) row whose source and group an earlier one has
abbrev pub entry_repeats : List RowValue → RowValue → Bool
entry_repeats earlier row = is_among same_key (key_of row) (filter_map key_of earlier)

-- the row of a line that comes after the earlier ones
unfoldable pub row_in_line : Order → List RowValue → LineText → Result RowValue TableFaultKind
row_in_line order earlier line = do
  _ ← demand line.ended Unended
  _ ← demand (nat_lt (length earlier) 65536) TooLarge
  row ← row_in_words order (words_of line.bytes)
  _ ← demand (not (entry_repeats earlier row)) RepeatedEntry
  Ok row

-- that row, or the fault at its line
abbrev pub row_at_line : Order → List RowValue → LineText → Result RowValue TableFault
row_at_line order earlier line = at_line line.number (row_in_line order earlier line)

-- ---- the text

-- the rows of a text in the order of its lines, or the first fault
abbrev pub cache_rows_in : Order → List ℕ → Result (List RowValue) TableFault
cache_rows_in order text = lines_in (codes "Group") text >>= rows_after (row_at_line order) []

-- the table of a text, or the first fault
abbrev pub cache_in : Order → List ℕ → Result CacheValue TableFault
cache_in order text = cache_rows_in order text >>= λ rows. Ok (table_of rows)
