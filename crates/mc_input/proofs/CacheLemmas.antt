-- What is kept of a router's cache, with a summary or without.
use Rattle.std.specs.Prelude.{◌≡◌, ℕ, Bool, List, Some, Result, Ok, Err, refl}
use Rattle.std.proofs.Common.{ap}
use Rattle.mc_bundle.specs.Bundle.{PartText}
use Rattle.mc_text.specs.Steps.{map_fault}
use Rattle.mc_text.specs.declared.text.addr.Order.{Order}
use Rattle.mc_tables.specs.CacheReading.{cache_in, cache_rows_in}
use Rattle.mc_tables.specs.CacheTable.{CacheValue, RowValue}
use Rattle.mc_tables.specs.ListedRows.{IsListedPart, listed_in}
use Rattle.mc_tables.specs.Summary.{summary_of}
use Rattle.mc_tables.specs.SummaryReading.{summary_in}
use Rattle.mc_tables.specs.declared.fault.TableFault.{TableFault}
use Rattle.mc_tables.specs.declared.summary.summarized_cache.SummarizedCache.{SummarizedCache}
use Rattle.mc_tables.proofs.ListedPartLemmas.{listed_in-is_part, listed_in-same_fault}
use Rattle.mc_files.proofs.PartLemmas.{Ok-from_refused_as}
use Rattle.mc_input.specs.Stream.{cache_and_text}
use Rattle.mc_input.specs.declared.fault.InputFault.{InputFault}
use Rattle.mc_input.specs.declared.fault.InputFault.TheVariants.{Cache}
use Rattle.mc_input.proofs.SummaryLemmas.{cache_in-Err_from_summary_in, cache_in-from_summary_in}
use Rattle.mc_input.proofs.SummaryLemmas.{cache_rows_in-from_summary_in}

-- the rows of these sources and groups in a part
abbrev pub listed_part : Order → List (ℕ × ℕ) → PartText → Result CacheValue InputFault
listed_part order pairs part = map_fault (Cache part.name) (listed_in order (Some pairs) part.bytes)

-- the entries of these sources and groups that a part has, and the summary of all its rows
abbrev pub summary_of_part : (all : Bool) → Order → List (ℕ × ℕ) → PartText
    → Result SummarizedCache InputFault
summary_of_part all order pairs part = map_fault (Cache part.name) (summary_in all order pairs part.bytes)

-- a part that is refused by a reader of the same faults
cache_and_text-Err : {X : Type 0} (order : Order) (part : PartText) (found : Result X TableFault)
    → ((own : TableFault) → found ≡ Err own → cache_in order part.bytes ≡ Err own)
    → (fault : InputFault) → map_fault (Cache part.name) found ≡ Err fault
    → cache_and_text order part ≡ Err fault
cache_and_text-Err order part (Ok x) each fault e = absurd cc
cache_and_text-Err order part (Err own) each fault e =
    let same : Cache part.name own ≡ fault = cc in rw (each own refl) (ap Err same)

module _ (order : Order) (pairs : List (ℕ × ℕ)) where
  -- a cache whose listed rows are read is read whole, and they are the listed part of it,
  pub cache_and_text-from_listed : (part : PartText) (listed : CacheValue)
      → listed_part order pairs part ≡ Ok listed
      → (whole : CacheValue)
      × (cache_and_text order part ≡ (let found : CacheValue × List ℕ = (whole, part.bytes) in Ok found))
      × IsListedPart (Some pairs) listed whole
  cache_and_text-from_listed part listed e =
      let found = Ok-from_refused_as (Cache part.name) (listed_in order (Some pairs) part.bytes) listed e in
      let whole = listed_in-is_part order (Some pairs) part.bytes listed found in
      (whole.0, rw whole.1 refl, whole.2)

  -- and one that is refused for its listed rows is refused whole
  pub cache_and_text-listed_Err : (part : PartText) (fault : InputFault)
      → listed_part order pairs part ≡ Err fault → cache_and_text order part ≡ Err fault
  cache_and_text-listed_Err part fault e =
      cache_and_text-Err order part (listed_in order (Some pairs) part.bytes)
      (λ own is. (listed_in-same_fault order (Some pairs) part.bytes own).0 is) fault e

  module _ (all : Bool) where
    -- so it is of a cache that is read with a summary,
    pub cache_and_text-from_summary : (part : PartText) (own : SummarizedCache)
        → summary_of_part all order pairs part ≡ Ok own
        → (whole : CacheValue)
        × (cache_and_text order part ≡ (let found : CacheValue × List ℕ = (whole, part.bytes) in Ok found))
        × IsListedPart (Some pairs) own.table whole
        × ((rows : List RowValue) × (cache_rows_in order part.bytes ≡ Ok rows)
        × (own.summary ≡ summary_of all pairs rows))
    cache_and_text-from_summary part own e =
        let found = Ok-from_refused_as (Cache part.name) (summary_in all order pairs part.bytes) own e in
        let whole = cache_in-from_summary_in all order pairs part.bytes own found in (
          whole.0,
          rw whole.1 refl,
          whole.2,
          cache_rows_in-from_summary_in all order pairs part.bytes own found,
        )

    -- and of its faults
    pub cache_and_text-summary_Err : (part : PartText) (fault : InputFault)
        → summary_of_part all order pairs part ≡ Err fault → cache_and_text order part ≡ Err fault
    cache_and_text-summary_Err part fault e =
        cache_and_text-Err order part (summary_in all order pairs part.bytes)
        (λ own is. cache_in-Err_from_summary_in all order pairs part.bytes own is) fault e
