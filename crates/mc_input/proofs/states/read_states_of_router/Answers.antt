use Rattle.std.proofs.lemmas.Result.{err_from_is_err_and}
use Rattle.mc_forward.proofs.IndexLemmas.{slice_get-exists}
use Rattle.std.proofs.Common.{ℕ, ◌≡◌, ◌∙◌, Ok, Some, ap, length, option_map}
use Rattle.std.proofs.Common.{refl, subst, sym, slice_get}
use Rattle.mc_text.specs.Steps.{map_fault}
use Rattle.mc_text.specs.declared.text.addr.Order.{Order}
use Rattle.mc_tables.specs.CacheReading.{cache_rows_in}
use Rattle.mc_tables.specs.EachRow.{each_row_if, with_rows}
use Rattle.mc_tables.specs.VifTable.{VifValue}
use Rattle.mc_topology.specs.SectionRows.{RouterRow}
use Rattle.mc_topology.specs.Topology.{TopologyValue}
use Rattle.mc_files.specs.Layout.{cache_slot}
use Rattle.mc_asked.specs.WantStates.{WantStatesValue, states_start, may_change_states, states_with_row}
use Rattle.mc_asked.proofs.WantStateLemmas.{states-pass_over_others}
use Rattle.mc_input.specs.ExcludedRouters.{files_without}
use Rattle.mc_input.specs.declared.fault.InputFault.TheVariants.{Cache}
use Rattle.mc_input.proofs.StateLemmas.{AreStatesOfRouter-from_rows, AreStatesOfRouter-of_none}
use Rattle.mc_input.proofs.StateLemmas.{IsSummaryOf-at}
use Rattle.std.proofs.lemmas.Bool.{eqb-true}
use Rattle.mc_input.proofs.WalkLemmas.{order-at}
use Rattle.std.specs.FinMap.{FinMap}
use Rattle.std.specs.Ordering.{nat_cmp}
use Rattle.mc_input.proofs.states.read_states_of_router.Goals as goal

-- the router's row, in a topology that is the domain's
row-at : (t own : TopologyValue) (k : ℕ) (r : RouterRow) → own ≡ t → slice_get t.routers k ≡ Some r
    → slice_get own.routers k ≡ Some r
row-at t own k r same at = subst (λ (u : TopologyValue). slice_get u.routers k ≡ Some r) (sym same) at

-- and its byte order
order-of : (t own : TopologyValue) (k : ℕ) (r : RouterRow) (order : Order) → own ≡ t
    → option_map (λ (r : RouterRow). r.order) (slice_get own.routers k) ≡ Some order
    → slice_get t.routers k ≡ Some r → order ≡ r.order
order-of t own k r order same item at =
    order-at (slice_get t.routers k) r order
    (subst (λ (u : TopologyValue). option_map (λ (r : RouterRow). r.order) (slice_get u.routers k)
    ≡ Some order) same item) at

one_table : {x y : FinMap nat_cmp VifValue} → Some x ≡ Some y → x ≡ y
one_table e = cc

-- Whoever takes the rows keeps what it has at each row that is passed over.
pub handing_on-reader-requires : goal.handing_on-reader-requires
handing_on-reader-requires g c = record { others = states-pass_over_others }

-- Of no wants there are no states, whatever the cache has.
pub returns-then-is_empty-clause-states : goal.returns-then-is_empty-clause-states
returns-then-is_empty-clause-states g c = λ all contents summary r vifs is summaries at vifs_at.
    let d = c.args.domain.now in
    let files = files_without c.args.without.now contents in
    let own = IsSummaryOf-at all files d.topology summary c.args.router r summaries c.requires.router at in
    AreStatesOfRouter-of_none files c.args.wants.now vifs r all d.topology.flows own.0
    c.new.result.items own.1
    (eqb-true (length c.args.wants.now) 0 (sym c.if-is_empty.ensures)) c.new.ensures.items

-- a cache whose rows can be read is refused for nothing in it
pub returns-in_err-stated-clause-fault : goal.returns-in_err-stated-clause-fault
returns-in_err-stated-clause-fault g c = λ all contents summary is summaries.
    let p = err_from_is_err_and c.from_residual-in_err-stated.result
    c.from_residual-in_err-stated.ensures.1 in
    let t = c.args.domain.now.topology in
    let k = c.args.router in
    let files = files_without c.args.without.now contents in
    let reader = c.handing_on-reader.result in
    let row = slice_get-exists t.routers k c.requires.router in
    let r = row.0 in
    let here = c.cache-slot.ensures.slot r
    (row-at t c.topology-topology.result.now k r c.topology-topology.ensures.topology row.1) in
    let order = order-of t c.topology-topology.result.now k r c.order-order.result
    c.topology-topology.ensures.topology c.order-order.ensures.item row.1 in
    let own = IsSummaryOf-at all files t summary k r summaries c.requires.router row.1 in
    let rows = ap (λ (o : Order). cache_rows_in o own.1.part.bytes) order ∙ own.1.read in
    rw (p.1, p.2)
    (c.in_err-stated.ensures.fault
    (λ part. map_fault (Cache part.name) (each_row_if may_change_states states_with_row reader part.bytes))
    (cache_slot r.name) contents own.1.part (with_rows states_with_row c.in_ok-start.start own.1.rows)
    (λ part small. refl) here is own.1.made
    (ap (map_fault (Cache own.1.part.name))
    (c.handing_on-reader.ensures.reads own.1.part.bytes own.1.rows rows)))

-- The reader handed on each row of the router's cache, and the states are by these rows.
pub returns-clause-states : goal.returns-clause-states
returns-clause-states g c = λ all contents summary r vifs is summaries at vifs_at.
    let t = c.args.domain.now.topology in
    let k = c.args.router in
    let files = files_without c.args.without.now contents in
    let wants = c.args.wants.now in
    let reader = c.handing_on-reader.result in
    let here = c.cache-slot.ensures.slot r
    (row-at t c.topology-topology.result.now k r c.topology-topology.ensures.topology at) in
    let order = order-of t c.topology-topology.result.now k r c.order-order.result
    c.topology-topology.ensures.topology c.order-order.ensures.item at in
    let own = IsSummaryOf-at all files t summary k r summaries c.requires.router at in
    let table : c.vifs.result.now ≡ vifs = one_table (sym c.vifs.ensures ∙ vifs_at) in
    let rows = ap (λ (o : Order). cache_rows_in o own.1.part.bytes) order ∙ own.1.read in
    let start : c.in_ok-start.start ≡ states_start vifs wants =
    c.in_ok-start.ensures ∙ ap (λ (v : FinMap nat_cmp VifValue). states_start v wants) table in
    let reads = c.handing_on-reader.ensures.reads own.1.part.bytes own.1.rows rows
    ∙ ap (λ (s : WantStatesValue). Ok (with_rows states_with_row s own.1.rows)) start in
    rw c.in_ok-states.ensures (AreStatesOfRouter-from_rows files wants vifs r own.1.rows own.1.part reader
    c.in_ok-stated.stated own.1.made own.1.read reads
    (c.in_ok-stated.ensures.value
    (λ part. map_fault (Cache part.name) (each_row_if may_change_states states_with_row reader part.bytes))
    (cache_slot r.name) contents (λ part small. refl) here is))
