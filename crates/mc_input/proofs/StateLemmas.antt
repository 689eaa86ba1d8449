-- What routers have for wants, by the caches in a folder's files.
use Rattle.std.specs.Prelude.{◌≡◌, ℕ, ◌<◌, Bool, List, [], ◌∷◌, ◌++◌, length, map, slice_get, Ok, Some, refl}
use Rattle.std.proofs.Common.{inl, inr, ap, arith, ◌∙◌, sym, subst}
use Rattle.std.specs.FinMap.{FinMap}
use Rattle.std.specs.Ordering.{nat_cmp}
use Rattle.mc_bundle.specs.Bundle.{PartText}
use Rattle.mc_text.specs.Steps.{map_fault}
use Rattle.mc_text.proofs.Lists.{slice_get-push_cases}
use Rattle.mc_text.proofs.StepLemmas.{ok_injective}
use Rattle.mc_tables.specs.CacheReading.{cache_rows_in}
use Rattle.mc_tables.specs.CacheTable.{RowValue}
use Rattle.mc_tables.specs.EachRow.{EachRowSoFar, each_row_if, with_rows}
use Rattle.mc_tables.specs.TableSoFar.{TableSoFar}
use Rattle.mc_tables.specs.Summary.{SummaryValue}
use Rattle.mc_tables.specs.VifTable.{VifValue}
use Rattle.mc_topology.specs.SectionRows.{RouterRow}
use Rattle.mc_topology.specs.Topology.{TopologyValue}
use Rattle.mc_topology.specs.declared.flow.Flow.{Flow}
use Rattle.mc_files.specs.FilePart.{file_part}
use Rattle.mc_files.specs.Files.{FileText}
use Rattle.mc_files.specs.Layout.{cache_slot}
use Rattle.mc_files.proofs.PartLemmas.{Ok-from_refused_as}
use Rattle.mc_forward.proofs.IndexLemmas.{slice_get-exists}
use Rattle.mc_asked.specs.Forwarding.{router_state}
use Rattle.mc_asked.specs.ListWants.{Want}
use Rattle.mc_asked.specs.WantStates.{StatedWantValue, WantStatesValue, states_by_rows, states_start}
use Rattle.mc_asked.specs.WantStates.{want_by_rows}
use Rattle.mc_asked.specs.WantStates.{may_change_states, states_with_row}
use Rattle.mc_asked.specs.declared.forwarding.RouterState.{RouterState}
use Rattle.mc_asked.proofs.WantStateLemmas.{states-of_rows}
use Rattle.mc_input.specs.StatesOfFiles.{AreStatesOfRouter}
use Rattle.mc_input.specs.SummariesOfFiles.{AreSummariesOf, IsSummaryOf}
use Rattle.mc_input.specs.declared.fault.InputFault.TheVariants.{Cache}
use Rattle.mc_input.proofs.FileAgainLemmas.{IsReadOfFile}

abbrev RowsOfStates : Type 0
RowsOfStates = TableSoFar (EachRowSoFar WantStatesValue)

-- the states alone
states_alone : (vifs : FinMap nat_cmp VifValue) (rows : List RowValue) (wants : List (Want × List ℕ))
    → map (λ (w : StatedWantValue). w.state) (map (want_by_rows vifs rows) wants)
    ≡ map (λ (w : Want × List ℕ). router_state vifs w.1 w.0 rows) wants
states_alone vifs rows [] = refl
states_alone vifs rows (w ∷ wants) =
    ap (λ (l : List RouterState). router_state vifs w.1 w.0 rows ∷ l) (states_alone vifs rows wants)

-- what a reader makes of the rows in the file
pub AreStatesOfRouter-from_rows : (files : List FileText) (wants : List (Want × List ℕ))
    (vifs : FinMap nat_cmp VifValue) (r : RouterRow) (rows : List RowValue) (own : PartText)
    (reader : RowsOfStates) (made : WantStatesValue)
    → file_part files (cache_slot r.name) ≡ Ok own → cache_rows_in r.order own.bytes ≡ Ok rows
    → each_row_if may_change_states states_with_row reader own.bytes
    ≡ Ok (with_rows states_with_row (states_start vifs wants) rows)
    → IsReadOfFile files (cache_slot r.name)
    (λ part. map_fault (Cache part.name) (each_row_if may_change_states states_with_row reader part.bytes))
    made
    → AreStatesOfRouter files wants vifs r (map (λ w. w.state) made.wants)
AreStatesOfRouter-from_rows files wants vifs r rows own reader made is read reads x =
    let part : x.0 ≡ own = ok_injective _ _ (sym x.1 ∙ is) in
    let kept = Ok-from_refused_as (Cache x.0.name)
    (each_row_if may_change_states states_with_row reader x.0.bytes) made x.2 in
    let all : with_rows states_with_row (states_start vifs wants) rows ≡ made =
    ok_injective _ _ (sym reads
    ∙ sym (ap (λ (p : PartText). each_row_if may_change_states states_with_row reader p.bytes) part)
    ∙ kept) in
    let by_rows : made ≡ states_by_rows vifs wants rows = sym all ∙ states-of_rows vifs wants rows in
    record {
      part = own;
      rows = rows;
      made = is;
      read = read;
      stated = ap (λ (s : WantStatesValue). map (λ (w : StatedWantValue). w.state) s.wants) by_rows
          ∙ states_alone vifs rows wants;
    }

-- without wants there is no state
pub AreStatesOfRouter-of_none : (files : List FileText) (wants : List (Want × List ℕ))
    (vifs : FinMap nat_cmp VifValue) (r : RouterRow) (all : Bool) (flows : List Flow) (summary : SummaryValue)
    (states : List RouterState) → IsSummaryOf all files flows r summary → length wants ≡ 0 → states ≡ []
    → AreStatesOfRouter files wants vifs r states
AreStatesOfRouter-of_none files [] vifs r all flows summary states is count none =
    record { part = is.part; rows = is.rows; made = is.made; read = is.read; stated = none }
AreStatesOfRouter-of_none files (w ∷ wants) vifs r all flows summary states is count none =
    absurd (omega (arith, count))

-- the summary of a router's cache
pub IsSummaryOf-at : (all : Bool) (files : List FileText) (t : TopologyValue) (summary : List SummaryValue)
    (k : ℕ) (r : RouterRow) → AreSummariesOf all files t summary → k < length t.routers
    → slice_get t.routers k ≡ Some r
    → (own : SummaryValue) × IsSummaryOf all files t.flows r own
IsSummaryOf-at all files t summary k r are within at =
    let own = slice_get-exists summary k (omega (arith, are.count, within)) in
    (own.0, are.each k r own.0 at own.1)

-- what holds of each of the items before and of one more holds of each of all
pub each-pushed : {A : Type 0} (P : ℕ → A → Type 0) (xs : List A) (x : A)
    → ((k : ℕ) (y : A) → slice_get xs k ≡ Some y → P k y) → P (length xs) x
    → (k : ℕ) (y : A) → slice_get (xs ++ x ∷ []) k ≡ Some y → P k y
each-pushed P xs x before own k y at =
    elim (slice_get-push_cases xs x k y at) [
      | inl earlier ↦ before k y earlier
      | inr last ↦ subst (λ (n : ℕ). P n y) (sym last.0) (subst (P (length xs)) last.1 own)
    ]
