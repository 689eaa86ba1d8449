-- The words of a line of the kernel's two tables, in their order (ipmr_vif_seq_show and
-- ipmr_mfc_seq_show in net/ipv4/ipmr.c).
use Rattle.std.specs.Prelude.{◌≡◌, ◌==◌, ◌||◌, ℕ, ◌≤◌, List, [], ◌∷◌, length, take, drop, Some, true}
use Rattle.std.specs.Prelude.{slice_index}
use Rattle.std.specs.Char.{is_ascii_digit}
use Rattle.mc_text.specs.Lines.{words_of}
use Rattle.mc_text.specs.declared.text.addr.Order.{Order}
use Rattle.mc_tables.specs.TableWords.{address_in}
use Rattle.mc_tables.specs.declared.vifs.vif_line.CounterWords.{CounterWords}
use Rattle.mc_tables.specs.declared.vifs.vif_line.VifWords.{VifWords}
use Rattle.mc_tables.specs.declared.cache.cache_line.CacheWords.{CacheWords}

-- the four counters of a vif's line, and then the words after them
abbrev pub counters_before : CounterWords → List (List ℕ) → List (List ℕ)
counters_before counters rest =
    counters.bytes_in.now ∷ counters.packets_in.now
    ∷ counters.bytes_out.now ∷ counters.packets_out.now ∷ rest

-- the nine words of a vif's line
abbrev pub vif_word_list : VifWords → List (List ℕ)
vif_word_list words =
    words.index.now ∷ words.device.now
    ∷ counters_before words.counters (words.flags.now ∷ words.local.now ∷ words.remote.now ∷ [])

-- the six words of a cache's row, and then those of its outgoing vifs
abbrev pub row_words_before : CacheWords → List (List ℕ) → List (List ℕ)
row_words_before words outgoing =
    words.group.now ∷ words.origin.now ∷ words.iif.now ∷ words.packets.now ∷ words.bytes.now
    ∷ words.wrong_if.now ∷ outgoing

-- a cache's row begins with two words of eight digits, each with a space after it (`%08X %08X `),
-- and they denote these addresses
pub record HasAddresses (order : Order) (line : List ℕ) (group origin : ℕ) : Type 0 where
  pub long : 18 ≤ length line
  pub words : words_of line ≡ take 8 line ∷ take 8 (drop 9 line) ∷ words_of (drop 18 line)
  pub group_read : address_in order (take 8 line) ≡ Some group
  pub origin_read : address_in order (take 8 (drop 9 line)) ≡ Some origin

-- a line begins with an incoming vif that is printed in three bytes (`%-3hd`): two decimal digits, or
-- one and a space, and a space
pub record StartsWithIif (line : List ℕ) : Type 0 where
  pub first : is_ascii_digit (slice_index line 0) ≡ true
  pub second : (slice_index line 1 == 32 || is_ascii_digit (slice_index line 1)) ≡ true
  pub behind : slice_index line 2 ≡ 32
