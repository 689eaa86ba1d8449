-- What hosts ask for and no flow answers, by a folder's files.
use Rattle.std.specs.Prelude.{◌≡◌, ℕ, ◌<◌, Bool, List, length, map, slice_get, Some}
use Rattle.std.proofs.Common.{ap, ap₂, arith, ◌∙◌, subst, sym}
use Rattle.std.specs.FinMap.{FinMap}
use Rattle.std.specs.Ordering.{nat_cmp}
use Rattle.std.proofs.lemmas.Option.{slice_get_within}
use Rattle.mc_bundle.specs.Bundle.{PartText}
use Rattle.mc_text.proofs.StepLemmas.{ok_injective}
use Rattle.mc_igmp.specs.ReadingList.{read_list}
use Rattle.mc_igmp.specs.declared.fault.ListFault.{ListFault}
use Rattle.mc_igmp.specs.declared.record.Record.{Record}
use Rattle.mc_tables.specs.declared.fault.TableFault.{TableFault}
use Rattle.mc_tables.specs.CacheReading.{cache_rows_in}
use Rattle.mc_tables.specs.CacheTable.{RowValue}
use Rattle.mc_tables.specs.VifTable.{VifValue}
use Rattle.mc_topology.specs.SectionRows.{RouterRow}
use Rattle.mc_topology.specs.Topology.{TopologyValue}
use Rattle.mc_files.specs.Files.{FileText}
use Rattle.mc_files.specs.Layout.{reports_slot}
use Rattle.mc_files.specs.declared.fault.FileFault.{FileFault}
use Rattle.mc_files.proofs.PartLemmas.{Ok-from_refused_as}
use Rattle.mc_forward.specs.Domains.{DomainValue, IsDomain}
use Rattle.mc_forward.proofs.IndexLemmas.{slice_get-exists}
use Rattle.mc_asked.specs.AskedLines.{asked_lines, count_wants, further_wants, lan_wants_from, service_lines}
use Rattle.mc_asked.specs.Forwarding.{router_state}
use Rattle.mc_asked.specs.ListWants.{Want}
use Rattle.mc_asked.specs.Unadmitted.{with_unadmitted}
use Rattle.mc_asked.specs.declared.forwarding.RouterState.{RouterState}
use Rattle.mc_input.specs.AskedOfFiles.{IsAskedOf, UnansweredWantsValue}
use Rattle.mc_input.specs.ListsOfFiles.{AreListsOf, IsListOf, answers_of}
use Rattle.mc_input.specs.PartsReading.{reports_of}
use Rattle.mc_input.specs.StatesOfFiles.{AreStatesOf, AreStatesOfRouter}
use Rattle.mc_input.specs.declared.fault.InputFault.TheVariants.{Reports}
use Rattle.mc_input.proofs.FileAgainLemmas.{IsReadOfFile}
use Rattle.mc_input.proofs.UniqueDomain.{same_lists-from_slice_get}

-- ---- the list of a LAN

-- its LAN's name, and its records
pub IsListOf-at : (files : List FileText) (t : TopologyValue) (lists : List (List Record)) (lan : ℕ)
    → AreListsOf files t lists → lan < length t.lans
    → (name : List ℕ) × (slice_get t.lans lan ≡ Some name) × (records : List Record)
    × (slice_get lists lan ≡ Some records) × IsListOf files name records
IsListOf-at files t lists lan are within =
    let name = slice_get-exists t.lans lan within in
    let records = slice_get-exists lists lan (omega (arith, are.count, within)) in
    (name.0, name.1, records.0, records.1, are.each lan name.0 records.0 name.1 records.1)

-- what is read again is the same list
pub same_list-read : (files : List FileText) (name : List ℕ) (records read : List Record)
    → IsListOf files name records → IsReadOfFile files (reports_slot name) reports_of read → records ≡ read
same_list-read files name records read is again =
    let part : is.part ≡ again.0 = ok_injective {E = FileFault} is.part again.0 (sym is.made ∙ again.1) in
    ok_injective {E = ListFault} records read
    (sym is.read ∙ ap (λ (p : PartText). read_list p.bytes) part
    ∙ Ok-from_refused_as (Reports again.0.name) (read_list again.0.bytes) read again.2)

-- ---- one answer

-- a LAN's file is one part, which has one list of records
IsListOf-unique : (files : List FileText) (lan : List ℕ) (a b : List Record) → IsListOf files lan a
    → IsListOf files lan b → a ≡ b
IsListOf-unique files lan a b one other =
    let part = ok_injective {E = FileFault} one.part other.part (sym one.made ∙ other.made) in
    ok_injective {E = ListFault} a b
    (sym one.read ∙ ap (λ (p : PartText). read_list p.bytes) part ∙ other.read)

-- the lists of all LANs
AreListsOf-unique : (files : List FileText) (t : TopologyValue) (a b : List (List Record))
    → AreListsOf files t a → AreListsOf files t b → a ≡ b
AreListsOf-unique files t a b one other =
    same_lists-from_slice_get a b (one.count ∙ sym other.count) (λ k x y at here.
    let within = slice_get_within a k x at in
    let lan = slice_get-exists t.lans k (omega (arith, within, one.count)) in
    IsListOf-unique files lan.0 x y (one.each k lan.0 x lan.1 at) (other.each k lan.0 y lan.1 here))

-- a router's file is one part, which has one list of rows, and the states are computed from the rows
AreStatesOfRouter-unique : (files : List FileText) (wants : List (Want × List ℕ))
    (vifs : FinMap nat_cmp VifValue) (r : RouterRow) (a b : List RouterState)
    → AreStatesOfRouter files wants vifs r a → AreStatesOfRouter files wants vifs r b → a ≡ b
AreStatesOfRouter-unique files wants vifs r a b one other =
    let part = ok_injective {E = FileFault} one.part other.part (sym one.made ∙ other.made) in
    let rows = ok_injective {E = TableFault} one.rows other.rows
    (sym one.read ∙ ap (λ (p : PartText). cache_rows_in r.order p.bytes) part ∙ other.read) in
    one.stated
    ∙ ap (λ (rs : List RowValue). map (λ (w : Want × List ℕ). router_state vifs w.1 w.0 rs) wants) rows
    ∙ sym other.stated

-- what the routers of a domain have, of which each has vifs
AreStatesOf-unique : (files : List FileText) (wants : List (Want × List ℕ)) (d : DomainValue)
    (a b : List (List RouterState)) → IsDomain d → AreStatesOf files wants d a
    → AreStatesOf files wants d b → a ≡ b
AreStatesOf-unique files wants d a b rules one other =
    same_lists-from_slice_get a b (one.count ∙ sym other.count) (λ k x y at here.
    let within = slice_get_within a k x at in
    let r = slice_get-exists d.topology.routers k (omega (arith, within, one.count)) in
    let vifs = slice_get-exists d.vifs k (omega (arith, within, one.count, rules.vifs.routers)) in
    AreStatesOfRouter-unique files wants vifs.0 r.0 x y (one.each k r.0 vifs.0 x r.1 vifs.1 at)
    (other.each k r.0 vifs.0 y r.1 vifs.1 here))

-- all that is asked is computed from the lists and the caches, of which there is one each
pub IsAskedOf-unique : (all : Bool) (ignored : List (ℕ × ℕ)) (files : List FileText) (d : DomainValue)
    (a b : UnansweredWantsValue) → IsDomain d → IsAskedOf all ignored files d a
    → IsAskedOf all ignored files d b → a ≡ b
IsAskedOf-unique all ignored files d a b rules one other =
    let lists = AreListsOf-unique files d.topology one.of.lists other.of.lists one.of.of other.of.of in
    let wants : one.wants ≡ other.wants =
    one.of.kept ∙ ap (lan_wants_from all (answers_of d.topology ignored) 0) lists ∙ sym other.of.kept in
    let lines : a.lines ≡ b.lines = one.lines ∙ ap (asked_lines all) wants ∙ sym other.lines in
    let count : a.count ≡ b.count = one.count ∙ ap count_wants wants ∙ sym other.count in
    let further : a.further ≡ b.further = one.further ∙ ap (further_wants all) wants ∙ sym other.further in
    let services : a.services ≡ b.services = one.services ∙ ap service_lines wants ∙ sym other.services in
    let needed : map (with_unadmitted one.of.lists) a.lines ≡ map (with_unadmitted other.of.lists) b.lines =
    ap₂ (λ (ls : List (List Record)) (l : List (Want × List ℕ)). map (with_unadmitted ls) l) lists lines in
    let states : a.states ≡ b.states =
    AreStatesOf-unique files (map (with_unadmitted other.of.lists) b.lines) d a.states b.states rules
    (subst (λ (ws : List (Want × List ℕ)). AreStatesOf files ws d a.states) needed one.states) other.states in
    λ i.
    record { lines = lines i; count = count i; further = further i; services = services i; states = states i }
