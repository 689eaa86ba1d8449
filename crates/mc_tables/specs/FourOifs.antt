-- Outgoing vifs with thresholds of one digit, as ipmr_mfc_seq_show prints them: " %2d:%-3d"
-- (net/ipv4/ipmr.c). Only contracts of private functions use these definitions.
use Rattle.std.specs.Prelude.{◌≡◌, ℕ, ◌+◌, ◌≤◌, ◌==◌, ◌||◌, ◌&&◌, nat_le, Bool, true, List, [], ◌∷◌}
use Rattle.std.specs.Prelude.{◌++◌, drop, slice_index, Ok}
use Rattle.std.specs.Char.{is_ascii_digit}
use Rattle.mc_text.specs.Lines.{words_of}
use Rattle.mc_tables.specs.declared.cache.entry.Oif.{Oif}
use Rattle.mc_tables.specs.CacheReading.{oif_in}

-- whether the byte is one of `least` to `most`
abbrev pub is_within : ℕ → ℕ → ℕ → Bool
is_within least most byte = nat_le least byte && nat_le byte most

-- a line begins with an outgoing vif of seven bytes: a space, the vif, a colon, a threshold of 1 to
-- 9, and two spaces
pub record StartsWithPrintedOif (line : List ℕ) : Type 0 where
  pub before : slice_index line 0 ≡ 32
  pub tens : (slice_index line 1 == 32 || is_within 49 51 (slice_index line 1)) ≡ true
  pub units : is_ascii_digit (slice_index line 2) ≡ true
  pub colon : slice_index line 3 ≡ 58
  pub threshold : is_within 49 57 (slice_index line 4) ≡ true
  pub behind : slice_index line 5 ≡ 32
  pub last : slice_index line 6 ≡ 32

-- a line begins with four outgoing vifs of that form
pub record StartsWithFourOifs (line : List ℕ) : Type 0 where
  pub first : StartsWithPrintedOif line
  pub second : StartsWithPrintedOif (drop 7 line)
  pub third : StartsWithPrintedOif (drop 14 line)
  pub fourth : StartsWithPrintedOif (drop 21 line)

-- words denote outgoing vifs that ascend from `next` on, and `end` is the number after the last one
abbrev pub DenoteAscendingOifs : ℕ → List (List ℕ) → List Oif → ℕ → Type 0
DenoteAscendingOifs next [] [] end = end ≡ next
DenoteAscendingOifs next (word ∷ words) (oif ∷ oifs) end =
    (oif_in word ≡ Ok (oif.vif, oif.threshold)) × (next ≤ oif.vif)
    × DenoteAscendingOifs (oif.vif + 1) words oifs end
DenoteAscendingOifs next words oifs end = ⊥

-- The words of a line before `rest` denote outgoing vifs, which ascend from `next` on and were
-- added after the old ones; `end` is the number after the last of them.
abbrev pub AddsAscendingOifs : (line rest : List ℕ) (next : ℕ) (old new : List Oif) (end : ℕ) → Type 0
AddsAscendingOifs line rest next old new end =
    (words : List (List ℕ)) × (four : List Oif) × (words_of line ≡ words ++ words_of rest)
    × (new ≡ old ++ four) × DenoteAscendingOifs next words four end
