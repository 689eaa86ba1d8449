-- A section of a topology denotes what it is read as, and is read as what it denotes.
use Rattle.std.proofs.Common.{◌≡◌, ℕ, ◌<◌, ◌≤◌, Bool, false, cond, eqb, List, [], ◌∷◌}
use Rattle.std.proofs.Common.{length, codes, Result, Ok, Err, nat_le, le-leb, refl, sym, ap, subst}
use Rattle.std.proofs.Common.{◌∙◌, arith}
use Rattle.std.specs.Bool.{Decides}
use Rattle.std.specs.List.{list_any}
use Rattle.std.proofs.lemmas.Bool.{leb-true, eqb-false, ne_eqb}
use Rattle.toml.specs.Data.{Data, Members}
use Rattle.mc_topology.specs.declared.fault.Section.{Section}
use Rattle.mc_topology.specs.declared.fault.Section.TheVariants as section
use Rattle.mc_topology.specs.declared.fault.TopologyFaultKind.{TopologyFaultKind}
use Rattle.mc_topology.specs.declared.fault.TopologyFaultKind.TheVariants.{NoFlow}
use Rattle.mc_topology.specs.declared.fault.TopologyFaultKind.TheVariants.{TooMany}
use Rattle.mc_topology.specs.declared.flow.Flow.{Flow}
use Rattle.mc_topology.specs.SectionRows.{RouterRow, InterfaceRow, SourceRow}
use Rattle.mc_text.specs.Steps.{◌>>=◌}
use Rattle.mc_topology.specs.Faults.{locate_fault}
use Rattle.mc_topology.specs.EachRow.{each_row}
use Rattle.mc_topology.specs.Document.{rows_in, list_at, rows_at}
use Rattle.mc_topology.specs.Document.{optional_list_at}
use Rattle.mc_topology.specs.Lans.{lan_name_of, lan_rows, lans_in}
use Rattle.mc_topology.specs.Routers.{router_of, routers_in}
use Rattle.mc_topology.specs.Interfaces.{interface_of, interfaces_in}
use Rattle.mc_topology.specs.Sources.{source_of, sources_in}
use Rattle.mc_topology.specs.Flows.{flow_of, flow_rows, flows_in}
use Rattle.mc_topology.specs.Denotation.{EachDenotes, DenotesLan, DenotesRouter}
use Rattle.mc_topology.specs.Denotation.{DenotesInterface, DenotesSource, DenotesFlow, DenotesLans}
use Rattle.mc_topology.specs.Denotation.{DenotesSection}
use Rattle.mc_topology.specs.Topology.{lan_key, router_key, interface_key}
use Rattle.mc_topology.specs.Topology.{source_key, flow_key}
use Rattle.mc_topology.proofs.Distinct.{AreDistinctBy-none}
use Rattle.mc_topology.proofs.Fields.{array-from_list_at, list_at-from_array}
use Rattle.mc_topology.proofs.Fields.{AreRows-from_optional_list_at, optional_list_at-from_AreRows}
use Rattle.mc_topology.proofs.Fields.{AreRows-from_rows_at, rows_at-from_AreRows}
use Rattle.mc_topology.proofs.Keys.{same_lan, same_lan-Decides, same_router, same_router-Decides}
use Rattle.mc_topology.proofs.Keys.{same_interface, same_interface-Decides, same_source}
use Rattle.mc_topology.proofs.Keys.{same_source-Decides, same_flow, same_flow-Decides}
use Rattle.mc_topology.proofs.EachRow.{each_row-denotes, each_row-from_denotes}
use Rattle.mc_topology.proofs.SectionParts.{lan_name_of-denotes}
use Rattle.mc_topology.proofs.SectionParts.{lan_name_of-from_denotes, router_of-denotes}
use Rattle.mc_topology.proofs.SectionParts.{router_of-from_denotes, interface_of-denotes}
use Rattle.mc_topology.proofs.SectionParts.{interface_of-from_denotes, source_of-denotes}
use Rattle.mc_topology.proofs.SectionParts.{source_of-from_denotes, flow_of-denotes}
use Rattle.mc_topology.proofs.SectionParts.{flow_of-from_denotes}
use Rattle.mc_topology.proofs.Steps.{bind_ok, refusal_ok, checked_ok}
use Rattle.mc_topology.proofs.Steps.{located_ok}

-- ---- sections

module _ {X K : Type 0} (name : Section) (word : List ℕ) (most : ℕ)
    (one : List X → Data → Result X TopologyFaultKind) (Denotation : Data → X → Type 0) (key : X → K)
    (test : X → X → Bool) (same : (y x : X) → Decides (test y x) (key y ≡ key x)) where
  -- a section that is read denotes what is read
  section-denotes : ((earlier : List X) (d : Data) (x : X) → one earlier d ≡ Ok x → Denotation d x
      × (list_any (λ y. test y x) earlier ≡ false)) → (ms : Members) (xs : List X)
      → (locate_fault name 0 (rows_at word most ms) >>= each_row name one []) ≡ Ok xs
      → DenotesSection word most Denotation key ms xs
  section-denotes takes ms xs e =
      let a = located_ok _ (rows_at word most ms) (each_row name one []) xs e in
      let rows = AreRows-from_rows_at word most ms a.0 a.1 in
      let (ys, is, denoted, distinct) =
      each_row-denotes name one Denotation key test same takes [] a.0 xs
      (AreDistinctBy-none key test same) a.2 in
      record {
        rows = a.0;
        list = rows.0;
        few = rows.1;
        each_row = subst (λ (zs : List X). EachDenotes Denotation a.0 zs) (sym is) denoted;
        distinct = distinct;
      }

  -- and what a section denotes is read
  section-from_denotes : ((earlier : List X) (d : Data) (x : X) → Denotation d x
      → list_any (λ y. test y x) earlier ≡ false → one earlier d ≡ Ok x)
      → (ms : Members) (xs : List X) → DenotesSection word most Denotation key ms xs
      → (locate_fault name 0 (rows_at word most ms) >>= each_row name one []) ≡ Ok xs
  section-from_denotes again ms xs s =
      rw (rows_at-from_AreRows word most ms s.rows s.list s.few)
      (each_row-from_denotes name one Denotation key test same again [] s.rows xs s.each_row s.distinct)

-- the routers, in both directions,
pub routers_in-denotes : (ms : Members) (rs : List RouterRow) → routers_in ms ≡ Ok rs
    → DenotesSection (codes "router") 256 DenotesRouter router_key ms rs
unfolding routers_in
routers_in-denotes ms rs e =
    section-denotes section.Router
    (codes "router") 256 router_of DenotesRouter router_key same_router same_router-Decides router_of-denotes
    ms rs e

pub routers_in-from_denotes : (ms : Members) (rs : List RouterRow)
    → DenotesSection (codes "router") 256 DenotesRouter router_key ms rs → routers_in ms ≡ Ok rs
unfolding routers_in
routers_in-from_denotes ms rs s =
    section-from_denotes section.Router
    (codes "router") 256 router_of DenotesRouter router_key same_router same_router-Decides
    router_of-from_denotes
    ms rs s

-- the interfaces, beside LANs and routers,
pub interfaces_in-denotes : (lans : List (List ℕ)) (routers : List RouterRow) (ms : Members)
    (is : List InterfaceRow) → interfaces_in lans routers ms ≡ Ok is
    → DenotesSection (codes "interface") 8192 (DenotesInterface lans routers) interface_key ms is
unfolding interfaces_in
interfaces_in-denotes lans routers ms is e =
    section-denotes section.Interface (codes "interface") 8192 (interface_of lans routers)
    (DenotesInterface lans routers) interface_key same_interface same_interface-Decides
    (interface_of-denotes lans routers) ms is e

pub interfaces_in-from_denotes : (lans : List (List ℕ)) (routers : List RouterRow) (ms : Members)
    (is : List InterfaceRow)
    → DenotesSection (codes "interface") 8192 (DenotesInterface lans routers) interface_key ms is
    → interfaces_in lans routers ms ≡ Ok is
unfolding interfaces_in
interfaces_in-from_denotes lans routers ms is s =
    section-from_denotes section.Interface (codes "interface") 8192 (interface_of lans routers)
    (DenotesInterface lans routers) interface_key same_interface same_interface-Decides
    (interface_of-from_denotes lans routers) ms is s

-- and the sources, beside LANs
pub sources_in-denotes : (lans : List (List ℕ)) (ms : Members) (ss : List SourceRow)
    → sources_in lans ms ≡ Ok ss
    → DenotesSection (codes "source") 4096 (DenotesSource lans) source_key ms ss
unfolding sources_in
sources_in-denotes lans ms ss e =
    section-denotes section.Source (codes "source") 4096 (source_of lans)
    (DenotesSource lans) source_key same_source same_source-Decides (source_of-denotes lans) ms ss e

pub sources_in-from_denotes : (lans : List (List ℕ)) (ms : Members) (ss : List SourceRow)
    → DenotesSection (codes "source") 4096 (DenotesSource lans) source_key ms ss
    → sources_in lans ms ≡ Ok ss
unfolding sources_in
sources_in-from_denotes lans ms ss s =
    section-from_denotes section.Source (codes "source") 4096 (source_of lans)
    (DenotesSource lans) source_key same_source same_source-Decides (source_of-from_denotes lans) ms ss s

-- ---- LANs

-- a list of LANs that is read denotes what is read
pub lans_in-denotes : (ms : Members) (lans : List (List ℕ)) → lans_in ms ≡ Ok lans → DenotesLans ms lans
unfolding lans_in lan_rows
lans_in-denotes ms lans e =
    let a = located_ok _ (lan_rows ms) (each_row section.Lans lan_name_of []) lans e in
    let l = bind_ok (list_at (codes "lans") ms)
    (λ rows. cond (nat_le (length rows) 1024) (Ok rows) (Err TooMany)) a.0 a.1 in
    let (same, few) = checked_ok (λ (ds : List Data). nat_le (length ds) 1024) TooMany l.0 a.0 l.2 in
    let (items, has, rows) = array-from_list_at (codes "lans") ms l.0 l.1 in
    let (ys, is, denoted, distinct) =
    each_row-denotes section.Lans lan_name_of DenotesLan lan_key same_lan same_lan-Decides lan_name_of-denotes
    [] a.0 lans
    (AreDistinctBy-none lan_key same_lan same_lan-Decides) a.2 in
    let all : a.0 ≡ rows_in items = sym same ∙ rows in
    record {
      items = items;
      list = has;
      few = subst (λ (ds : List Data). length ds ≤ 1024) all (leb-true (length a.0) 1024 few);
      each_row = subst (λ (ds : List Data). EachDenotes DenotesLan ds lans) all
          (subst (λ (zs : List (List ℕ)). EachDenotes DenotesLan a.0 zs) (sym is) denoted);
      distinct = distinct;
    }

-- and what the list denotes is read
pub lans_in-from_denotes : (ms : Members) (lans : List (List ℕ)) → DenotesLans ms lans → lans_in ms ≡ Ok lans
unfolding lans_in lan_rows
lans_in-from_denotes ms lans s =
    rw (
      list_at-from_array (codes "lans") ms s.items s.list,
      le-leb (length (rows_in s.items)) 1024 s.few,
    )
    (each_row-from_denotes section.Lans lan_name_of DenotesLan lan_key same_lan same_lan-Decides
    lan_name_of-from_denotes []
    (rows_in s.items) lans s.each_row s.distinct)

-- ---- flows

-- as many values as rows
pub length-EachDenotes : {X : Type 0} (Denotation : Data → X → Type 0) (ds : List Data) (xs : List X)
    → EachDenotes Denotation ds xs → length ds ≡ length xs
length-EachDenotes Denotation [] [] s = refl
length-EachDenotes Denotation [] (x ∷ xs) s = absurd s
length-EachDenotes Denotation (d ∷ ds) [] s = absurd s
length-EachDenotes Denotation (d ∷ ds) (x ∷ xs) s = omega (arith, length-EachDenotes Denotation ds xs s.1)

-- a list of flows that is read denotes what is read, at least one flow
pub flows_in-denotes : (sources : List SourceRow) (ms : Members) (fs : List Flow)
    → flows_in sources ms ≡ Ok fs
    → DenotesSection (codes "flow") 4096 (DenotesFlow sources) flow_key ms fs × (0 < length fs)
unfolding flows_in flow_rows
flows_in-denotes sources ms fs e =
    let a = located_ok _ (flow_rows ms) (each_row section.Flow (flow_of sources) []) fs e in
    let l = bind_ok (optional_list_at (codes "flow") ms)
    (λ rows. cond (eqb (length rows) 0) (Err NoFlow)
    (cond (nat_le (length rows) 4096) (Ok rows) (Err TooMany))) a.0 a.1 in
    let some = refusal_ok (eqb (length l.0) 0) NoFlow _ a.0 l.2 in
    let (same, few) = checked_ok (λ (ds : List Data). nat_le (length ds) 4096) TooMany l.0 a.0 some.1 in
    let (ys, is, denoted, distinct) =
    each_row-denotes section.Flow (flow_of sources) (DenotesFlow sources) flow_key same_flow same_flow-Decides
    (flow_of-denotes sources) [] a.0 fs (AreDistinctBy-none flow_key same_flow same_flow-Decides) a.2 in
    let denoted' : EachDenotes (DenotesFlow sources) a.0 fs =
    subst (λ (zs : List Flow). EachDenotes (DenotesFlow sources) a.0 zs) (sym is) denoted in
    let none = eqb-false (length l.0) 0 some.0 in
    let long : 0 < length l.0 = omega (arith, none) in (
      record {
        rows = a.0;
        list = AreRows-from_optional_list_at (codes "flow") ms a.0 (l.1 ∙ ap Ok same);
        few = leb-true (length a.0) 4096 few;
        each_row = denoted';
        distinct = distinct;
      },
      omega (arith, long, ap length same, length-EachDenotes (DenotesFlow sources) a.0 fs denoted'),
    )

-- and what the list denotes is read, if it is at least one flow
pub flows_in-from_denotes : (sources : List SourceRow) (ms : Members) (fs : List Flow)
    → DenotesSection (codes "flow") 4096 (DenotesFlow sources) flow_key ms fs → 0 < length fs
    → flows_in sources ms ≡ Ok fs
unfolding flows_in flow_rows
flows_in-from_denotes sources ms fs s some =
    let long = length-EachDenotes (DenotesFlow sources) s.rows fs s.each_row in
    rw (
      optional_list_at-from_AreRows (codes "flow") ms s.rows s.list,
      ne_eqb (length s.rows) 0 (λ e. omega (arith, e, long)),
      le-leb (length s.rows) 4096 s.few,
    )
    (each_row-from_denotes section.Flow (flow_of sources)
    (DenotesFlow sources) flow_key same_flow same_flow-Decides
    (flow_of-from_denotes sources) [] s.rows fs s.each_row s.distinct)
