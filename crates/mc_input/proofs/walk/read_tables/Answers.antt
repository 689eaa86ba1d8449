use Rattle.std.proofs.Common.{◌≡◌, ℕ, ◌+◌, ◌*◌, ◌∙◌, ◌∷◌, ◌++◌, [], Bool, Err, List, Ok, Result, Some, ap}
use Rattle.std.proofs.Common.{Option, arith, drop, length, map, refl, rules, subst, sym}
use Rattle.std.proofs.lemmas.List.{drop_all, length-append}
use Rattle.std.proofs.lemmas.Result.{err_from_is_err_and}
use Rattle.mc_text.specs.Steps.{map_fault}
use Rattle.mc_text.specs.declared.text.addr.Order.{Order}
use Rattle.mc_tables.specs.ListedRows.{IsListedPart}
use Rattle.mc_topology.specs.SectionRows.{RouterRow}
use Rattle.mc_topology.specs.Topology.{TopologyValue}
use Rattle.mc_files.specs.Layout.{SlotNumber}
use Rattle.mc_files.specs.Layout.{first_lan_number}
use Rattle.mc_forward.specs.Domains.{TablesValue}
use Rattle.mc_forward.specs.ListedTables.{flow_pairs}
use Rattle.mc_forward.specs.RouterTables.{RouterTablesValue, kept_of_tables}
use Rattle.mc_forward.proofs.IndexLemmas.{slice_get-exists}
use Rattle.mc_forward.proofs.ListedTableLemmas.{with_router-of_listed_part}
use Rattle.mc_input.specs.Kept.{AreFlowPairs}
use Rattle.mc_input.specs.PartsReading.{vifs_of}
use Rattle.mc_input.specs.Stream.{KeepsCacheText, NextParts, RouterRead, Stream, cache_and_text, part_then}
use Rattle.mc_input.specs.Stream.{read_first, read_router, read_stream, router_read}
use Rattle.mc_input.specs.declared.fault.InputFault.TheVariants.{Vif}
use Rattle.mc_input.specs.declared.source_fault.SourceFault.{SourceFault}
use Rattle.mc_input.proofs.ReadingLemmas.{drop-slice_get}
use Rattle.mc_input.proofs.WalkLemmas.{map-tables_push, read_each_after, read_each-Err, read_each-end}
use Rattle.mc_input.proofs.WalkLemmas.{read_each-more}
use Rattle.mc_input.proofs.WalkLemmas.{order-at, read_each-start, read_router-Ok, read_router-cache_Err}
use Rattle.mc_input.proofs.WalkLemmas.{read_router-vifs_Err, read_stream-Err_implied}
use Rattle.mc_input.proofs.walk.read_tables.Goals as goal

abbrev read : RouterRow → NextParts → Result (RouterRead × NextParts) SourceFault
read r = read_router r.order

-- Before the first router nothing was read of the stream.
pub loop-router-init : goal.loop-router-init
loop-router-init g c = record {
  advances = g.met.S.Slots.stays c.args.slots.now;
  failures = refl;
  room = c.requires.room;
  end = c.routers-router-end.ensures.count;
  settings = refl;
  count = ap (λ (k : RouterTablesValue). length k.vifs) c.in_ok-tables.ensures;
  flows = ap (λ (k : RouterTablesValue). k.flows) c.in_ok-tables.ensures;
  taken = λ stream known. (
    stream,
    [],
    known,
    c.in_ok-tables.ensures,
    c.requires.none_kept,
    read_each-start read c.args.topology.now.routers stream,
  );
}

-- what the slots give from the router's vifs on,
vifs_at : (gives : TopologyValue → ℕ → Option Stream) (t : TopologyValue) (n : ℕ) (slot : SlotNumber)
    (stream : Stream) → slot ≡ record { topology = t; number = n } → gives t n ≡ Some stream
    → gives slot.topology slot.number ≡ Some stream
vifs_at gives t n slot stream is known =
    subst (λ (s : SlotNumber). gives s.topology s.number ≡ Some stream) (sym is) known

-- and from its cache on
cache_at : (gives : TopologyValue → ℕ → Option Stream) (t : TopologyValue) (k : ℕ) (vifs cache : SlotNumber)
    (stream : Stream) → vifs ≡ record { topology = t; number = 1 + 2 * k }
    → cache ≡ record { topology = t; number = 2 + 2 * k }
    → gives vifs.topology (vifs.number + 1) ≡ Some stream → gives cache.topology cache.number ≡ Some stream
cache_at gives t k vifs cache stream is next known =
    let behind : 1 + 2 * k + 1 ≡ 2 + 2 * k = omega arith in
    vifs_at gives t (2 + 2 * k) cache stream next
    (subst (λ (n : ℕ). gives t n ≡ Some stream) behind
    (subst (λ (s : SlotNumber). gives s.topology (s.number + 1) ≡ Some stream) is known))

-- and from the next router's vifs on
next_at : (gives : TopologyValue → ℕ → Option Stream) (t : TopologyValue) (k : ℕ) (cache : SlotNumber)
    (stream : Stream) → cache ≡ record { topology = t; number = 2 + 2 * k }
    → gives cache.topology (cache.number + 1) ≡ Some stream → gives t (1 + 2 * (k + 1)) ≡ Some stream
next_at gives t k cache stream is known =
    let behind : 2 + 2 * k + 1 ≡ 1 + 2 * (k + 1) = omega arith in
    subst (λ (n : ℕ). gives t n ≡ Some stream) behind
    (subst (λ (s : SlotNumber). gives s.topology (s.number + 1) ≡ Some stream) is known)

-- The keeper's settings stay the same, and were made for the topology's flows.
pub read_cache-requires-clause-listed : goal.read_cache-requires-clause-listed
read_cache-requires-clause-listed g c =
    rw (ap (λ (s : SlotNumber). s.topology) c.cache-cache_slot.ensures.number)
    (subst (λ (p : List (ℕ × ℕ) × Bool). AreFlowPairs c.args.topology.now.flows p.0)
    (sym c.loop-router.invariant.settings) c.requires.listed)

-- The routers before were read, so that the fault of this one's vifs is the first.
pub returns-in_err-vifs-clause-fault : goal.returns-in_err-vifs-clause-fault
returns-in_err-vifs-clause-fault g c =
    let p = err_from_is_err_and c.from_residual-in_err-vifs.result c.from_residual-in_err-vifs.ensures.1 in
    let rs = c.args.topology.now.routers in
    let k = c.loop-router.router in
    let own = c.in_err-vifs.field-0.0 in
    let r = slice_get-exists rs k (omega (arith, c.loop-router-test.true, c.loop-router.invariant.end)) in
    rw (p.1, p.2) (λ stream known loud.
    let x = c.loop-router.invariant.taken stream known in
    let vifs_next = vifs_at (g.S.Slots.gives c.loop-router.slots) c.args.topology.now (1 + 2 * k)
    c.vifs-vif_slot.result x.0 c.vifs-vif_slot.ensures.number x.2 in
    x.5 ∙ ap (λ (more : List RouterRow). read_stream (read_each_after read x.1 more) x.0)
    (drop-slice_get rs k r.0 r.1)
    ∙ read_stream-Err_implied (read r.0) (read_each_after read x.1 (r.0 ∷ drop (k + 1) rs))
    (read_each-Err read x.1 r.0 (drop (k + 1) rs)) x.0 own
    (read_stream-Err_implied (read_first vifs_of) (read r.0) (read_router-vifs_Err r.0.order) x.0 own
    (c.in_err-vifs.ensures.fault vifs_of
    (λ part small. ap (map_fault (Vif part.name)) (c.new-reader.ensures.reads part.bytes small))
    x.0 vifs_next loud)))

-- The routers before and this one's vifs were read, so that the fault of its cache is the first.
pub returns-in_err-cache-clause-fault : goal.returns-in_err-cache-clause-fault
returns-in_err-cache-clause-fault g c =
    let p = err_from_is_err_and c.from_residual-in_err-cache.result c.from_residual-in_err-cache.ensures.1 in
    let rs = c.args.topology.now.routers in
    let k = c.loop-router.router in
    let own = c.in_err-cache.field-0.0 in
    let r = slice_get-exists rs k (omega (arith, c.loop-router-test.true, c.loop-router.invariant.end)) in
    let order = order-at _ r.0 c.order-order.result c.order-order.ensures.item r.1 in
    rw (p.1, p.2) (λ stream known loud.
    let x = c.loop-router.invariant.taken stream known in
    let vifs_next = vifs_at (g.S.Slots.gives c.loop-router.slots) c.args.topology.now (1 + 2 * k)
    c.vifs-vif_slot.result x.0 c.vifs-vif_slot.ensures.number x.2 in
    let v = c.in_ok-vifs.ensures.value vifs_of
    (λ part small. ap (map_fault (Vif part.name)) (c.new-reader.ensures.reads part.bytes small))
    x.0 vifs_next in
    let cache_next = cache_at (g.S.Slots.gives c.read_slot.new.slots) c.args.topology.now k
    c.vifs-vif_slot.result c.cache-cache_slot.result v.0 c.vifs-vif_slot.ensures.number
    c.cache-cache_slot.ensures.number v.2 in
    x.5 ∙ ap (λ (more : List RouterRow). read_stream (read_each_after read x.1 more) x.0)
    (drop-slice_get rs k r.0 r.1)
    ∙ read_stream-Err_implied (read r.0) (read_each_after read x.1 (r.0 ∷ drop (k + 1) rs))
    (read_each-Err read x.1 r.0 (drop (k + 1) rs)) x.0 own
    (ap (read_stream (read r.0)) v.3 ∙ read_router-cache_Err r.0.order v.0 v.1 v.4.0 own v.4.1
    (subst (λ (o : Order). read_stream (read_first (cache_and_text o)) v.0 ≡ Err own) order
    (c.in_err-cache.ensures.fault v.0 cache_next loud))))

-- One call after another goes on from where the first stopped.
pub returns-in_err-cache-clause-advances : goal.returns-in_err-cache-clause-advances
returns-in_err-cache-clause-advances g c =
    g.met.S.Slots.advances_twice c.args.slots.now c.read_slot.new.slots c.read_cache.new.slots
    (g.met.S.Slots.advances_twice c.args.slots.now c.loop-router.slots c.read_slot.new.slots
    c.loop-router.invariant.advances c.in_ok-vifs.ensures.advances) c.in_err-cache.ensures.advances

pub returns-in_err-add-clause-advances : goal.returns-in_err-add-clause-advances
returns-in_err-add-clause-advances g c =
    g.met.S.Slots.advances_twice c.args.slots.now c.read_slot.new.slots c.read_cache.new.slots
    (g.met.S.Slots.advances_twice c.args.slots.now c.loop-router.slots c.read_slot.new.slots
    c.loop-router.invariant.advances c.in_ok-vifs.ensures.advances) c.in_ok-cache.ensures.advances

-- The next router's vifs and cache are the stream's next two parts, and its tables are added behind
-- the others.
pub loop-router-preserved : goal.loop-router-preserved
loop-router-preserved g c =
    let t = c.args.topology.now in
    let rs = t.routers in
    let k = c.loop-router.router in
    let r = slice_get-exists rs k (omega (arith, c.loop-router-test.true, c.loop-router.invariant.end)) in
    let order = order-at _ r.0 c.order-order.result c.order-order.ensures.item r.1 in
    let vifs = c.in_ok-vifs.vifs in
    let own : TablesValue = record { vifs = vifs; cache = c.in_ok-cache.cache } in
    let kept = g.K.CacheKeeper.has_kept in
    let added = c.in_ok-add.ensures.added in
    let gives = g.S.Slots.gives in
    let vif_slot = c.vifs-vif_slot.result in
    let cache_slot = c.cache-cache_slot.result in
    let vif_number = c.vifs-vif_slot.ensures.number in
    let cache_number = c.cache-cache_slot.ensures.number in
    let of_topology : cache_slot.topology ≡ t = ap (λ (s : SlotNumber). s.topology) cache_number in
    record {
      advances = g.met.S.Slots.advances_twice c.args.slots.now c.read_slot.new.slots c.read_cache.new.slots
          (g.met.S.Slots.advances_twice c.args.slots.now c.loop-router.slots c.read_slot.new.slots
          c.loop-router.invariant.advances c.in_ok-vifs.ensures.advances) c.in_ok-cache.ensures.advances;
      failures = c.in_ok-cache.ensures.failures ∙ c.in_ok-vifs.ensures.failures
          ∙ c.loop-router.invariant.failures;
      room = search rules;
      end = c.loop-router.invariant.end;
      settings = c.in_ok-cache.ensures.settings ∙ c.loop-router.invariant.settings;
      count = ap (λ (k : RouterTablesValue). length k.vifs) added ∙ omega (
        arith,
        length-append c.loop-router.tables.vifs (vifs ∷ []),
        c.loop-router.invariant.count,
      );
      flows = ap (λ (k : RouterTablesValue). k.flows) added ∙ c.loop-router.invariant.flows;
      taken = λ stream known.
          let x = c.loop-router.invariant.taken stream known in
          let v = c.in_ok-vifs.ensures.value vifs_of
          (λ part small. ap (map_fault (Vif part.name)) (c.new-reader.ensures.reads part.bytes small)) x.0
          (vifs_at (gives c.loop-router.slots) t (1 + 2 * k) vif_slot x.0 vif_number x.2) in
          let y = c.in_ok-cache.ensures.cache v.0
          (cache_at (gives c.read_slot.new.slots) t k vif_slot cache_slot v.0 vif_number cache_number v.2) in
          let read_own = router_read v.4.0 y.4.0.0 r.0.order y.4.0.1 in
          let before = map (λ (read : RouterRead). read.tables) x.1 in
          let listed = subst (λ (u : TopologyValue).
          IsListedPart (Some (flow_pairs u.flows)) c.in_ok-cache.cache y.4.0.0) of_topology y.4.2.0 in
          let keeps = subst (λ (u : TopologyValue).
          KeepsCacheText (kept c.loop-router.keeper u.flows) (kept c.read_cache.new.self u.flows)
          c.order-order.result y.4.0.1) of_topology y.4.2.1 in (
            y.0,
            x.1 ++ read_own ∷ [],
            next_at (gives c.read_cache.new.slots) t k cache_slot y.0 cache_number y.2,
            added ∙ with_router-of_listed_part t.flows c.loop-router.tables before own read_own.tables x.3
                (record { vifs = v.4.2; cache = listed })
                ∙ ap (kept_of_tables t.flows) (sym (map-tables_push x.1 read_own)),
            subst (λ (o : Order). kept c.read_cache.new.self t.flows
                (x.1 ++ router_read v.4.0 y.4.0.0 o y.4.0.1 ∷ []))
                order (keeps x.1 v.4.0 y.4.0.0 x.4),
            x.5 ∙ ap (λ (more : List RouterRow). read_stream (read_each_after read x.1 more) x.0)
                (drop-slice_get rs k r.0 r.1)
                ∙ read_each-more read x.1 r.0 (drop (k + 1) rs) x.0 y.0 read_own
                (ap (read_stream (read r.0)) (v.3 ∙ ap (part_then v.1) y.3)
                ∙ read_router-Ok r.0.order y.0 v.1 y.1 v.4.0 y.4.0 v.4.1
                (subst (λ (o : Order). cache_and_text o y.1 ≡ Ok y.4.0) order y.4.1)),
          );
    }

-- After the last router the stream goes on with the first LAN's part.
pub returns-clause-tables : goal.returns-clause-tables
returns-clause-tables g c = λ stream known.
    let t = c.args.topology.now in
    let rs = t.routers in
    let k = c.loop-router.router in
    let x = c.loop-router.invariant.taken stream known in
    let all : k ≡ length rs = omega (
      arith,
      c.loop-router-test.false,
      c.loop-router.invariant.end,
      c.loop-router.invariant.count,
      c.loop-router.auto.router-end,
    ) in
    let none : drop k rs ≡ [] = drop_all k rs (omega (arith, all)) in
    let number : 1 + 2 * k ≡ first_lan_number t = omega (arith, all) in (
      x.0,
      x.1,
      subst (λ (n : ℕ). g.S.Slots.gives c.loop-router.slots t n ≡ Some x.0) number x.2,
      x.3,
      x.4,
      x.5 ∙ ap (λ (more : List RouterRow). read_stream (read_each_after read x.1 more) x.0) none
          ∙ read_each-end read x.1 x.0,
    )

-- Tables were added for each router, and each with a row for every flow.
pub returns-clause-counts : goal.returns-clause-counts
returns-clause-counts g c = record {
  routers = omega (
    arith,
    c.loop-router.invariant.count,
    c.loop-router.invariant.end,
    c.loop-router-test.false,
    c.loop-router.auto.router-end,
  );
  flows = c.loop-router.invariant.flows;
}
