-- How outgoing words are read: each at its first colon, and the outgoing vifs so far kept in
-- ascending order. Only contracts of private functions use these definitions; `oifs_in` of
-- `CacheReading` says what is read.
use Rattle.std.specs.Prelude.{ℕ, ◌==◌, nat_lt, Bool, not, List, [], ◌∷◌, insert, Result, Ok, Err}
use Rattle.std.specs.Option.{ok_or}
use Rattle.std.specs.List.{list_any, position_or_len}
use Rattle.mc_tables.specs.declared.cache.entry.Oif.{Oif}
use Rattle.mc_tables.specs.declared.fault.TableFaultKind.{TableFaultKind}
use Rattle.mc_tables.specs.declared.fault.TableFaultKind.TheVariants.{BadOif, BadThreshold}
use Rattle.mc_tables.specs.declared.fault.TableFaultKind.TheVariants.{RepeatedOif}
use Rattle.mc_text.specs.Steps.{◌>>=◌}
use Rattle.mc_tables.specs.Steps.{demand}
use Rattle.mc_tables.specs.TableWords.{number_in}
use Rattle.mc_tables.specs.CacheTable.{to_oif}
use Rattle.mc_tables.specs.CacheReading.{oif_in}

-- the threshold that the parts after the first colon write, where there has to be one part
abbrev pub threshold_in : List (List ℕ) → Result ℕ TableFaultKind
threshold_in (threshold ∷ []) = ok_or (number_in 1 254 threshold) BadThreshold
threshold_in parts = Err BadOif

-- the vif that is before the first colon, and the threshold that is after it
abbrev pub oif_at_colon : List ℕ → List (List ℕ) → Result (ℕ × ℕ) TableFaultKind
oif_at_colon vif after = do
  v ← ok_or (number_in 0 31 vif) BadOif
  t ← threshold_in after
  Ok (v, t)

-- whether `vif` is one of the outgoing vifs
abbrev pub has_vif : List Oif → ℕ → Bool
has_vif oifs vif = list_any (λ other. other.vif == vif) oifs

-- the outgoing vifs, ascending, with one more at its place
abbrev pub insert_oif : List Oif → ℕ × ℕ → List Oif
insert_oif oifs oif =
    insert oifs (position_or_len (λ other. nat_lt oif.0 other.vif) oifs) (to_oif oif)

-- the outgoing vifs with that of one more word, which has to be a new one
abbrev pub oifs_with_word : List Oif → List ℕ → Result (List Oif) TableFaultKind
oifs_with_word oifs word = do
  oif ← oif_in word
  _ ← demand (not (has_vif oifs oif.0)) RepeatedOif
  Ok (insert_oif oifs oif)

-- the outgoing vifs with those of more words
abbrev pub oifs_after_words : List Oif → List (List ℕ) → Result (List Oif) TableFaultKind
oifs_after_words oifs [] = Ok oifs
oifs_after_words oifs (word ∷ words) = oifs_with_word oifs word >>= λ more. oifs_after_words more words
