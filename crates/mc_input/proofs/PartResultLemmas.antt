-- What is kept of a part, or its fault, and readers that keep the rows of listed flows.
use Rattle.std.specs.Prelude.{◌≡◌, ◌≢◌, ℕ, ◌≤◌, List, Some, Result, Ok, Err, length, refl}
use Rattle.std.proofs.Common.{ap, ◌∙◌, sym, subst}
use Rattle.std.specs.FinSet as set
use Rattle.mc_text.specs.Lines.{max_text}
use Rattle.mc_text.specs.declared.text.addr.Order.{Order}
use Rattle.mc_tables.specs.CacheTable.{key_cmp}
use Rattle.mc_tables.specs.ListedRows.{listed_in}
use Rattle.mc_tables.specs.RowsSoFar.{CacheSoFar, cache_if, cache_start, rows_start}
use Rattle.mc_tables.specs.TableSoFar.{table_start}
use Rattle.mc_tables.proofs.ListedPairLemmas.{same_set}
use Rattle.mc_tables.proofs.RowsSoFarLemmas.{cache_if-start}
use Rattle.mc_input.specs.Kept.{AreSamePairs}
use Rattle.mc_input.specs.PartsOneByOne.{IsPartResult}
use Rattle.mc_input.specs.declared.fault.InputFault.{InputFault}
use Rattle.mc_input.specs.declared.fault.InputFault.TheVariants as input

-- ---- the result of a part

module _ {K Y : Type 0} (Keeps : K → Y → Type 0) where
  -- what is kept is kept of the part's value
  pub Ok-from_IsPartResult : (part_result : Result K InputFault) (read : Result Y InputFault) (kept : K)
      → IsPartResult Keeps part_result read → part_result ≡ Ok kept → (y : Y) × (read ≡ Ok y) × Keeps kept y
  Ok-from_IsPartResult (Ok own) (Ok y) kept is e =
      let same : own ≡ kept = cc in (y, refl, subst (λ k. Keeps k y) same is)
  Ok-from_IsPartResult (Ok own) (Err fault) kept is e = absurd is
  Ok-from_IsPartResult (Err fault) read kept is e = absurd cc

  -- a fault that isn't lack of memory is the part's
  pub Err-from_IsPartResult : (fault : InputFault) (read : Result Y InputFault)
      → IsPartResult Keeps (Err fault) read → fault ≢ input.Memory → read ≡ Err fault
  Err-from_IsPartResult input.Memory read is loud = absurd (loud refl)
  Err-from_IsPartResult fault read is loud = is

  -- the same of a result that is known to be a fault
  pub Err-from_part_result : (part_result : Result K InputFault) (read : Result Y InputFault)
      (fault : InputFault) → IsPartResult Keeps part_result read → part_result ≡ Err fault
      → fault ≢ input.Memory → read ≡ Err fault
  Err-from_part_result (Ok own) read fault is e loud = absurd cc
  Err-from_part_result (Err own) read fault is e loud =
      let same : own ≡ fault = cc in
      Err-from_IsPartResult own read is (λ m. loud (sym same ∙ m)) ∙ ap Err same

-- ---- the rows of listed flows

-- a reader that keeps the rows of these sources and groups keeps those of the same in another order
pub cache_start-same_pairs : (order : Order) (listed pairs : List (ℕ × ℕ)) (reader : CacheSoFar)
    → reader ≡ cache_start order (Some listed) → AreSamePairs listed pairs
    → reader ≡ cache_start order (Some pairs)
cache_start-same_pairs order listed pairs reader start same =
    start
    ∙ ap (λ (s : set.FinSet key_cmp). table_start (rows_start order (Some s))) (same_set listed pairs same)

-- and reads a text in it
pub cache_if-listed_in : (order : Order) (pairs : List (ℕ × ℕ)) (reader : CacheSoFar)
    → reader ≡ cache_start order (Some pairs) → (text : List ℕ) → length text ≤ max_text
    → cache_if reader text ≡ listed_in order (Some pairs) text
cache_if-listed_in order pairs reader start text small =
    ap (λ (s : CacheSoFar). cache_if s text) start ∙ cache_if-start order (Some pairs) text small
