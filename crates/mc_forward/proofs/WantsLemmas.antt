-- Which flows are wanted, list by list.
use Rattle.std.proofs.Common.{◌≡◌, ℕ, ◌<◌, Bool, false, List, [], length}
use Rattle.std.proofs.Common.{get_or, slice_get, Some, option_map, refl, ap, sym, subst, ◌∙◌, arith}
use Rattle.std.specs.Prelude.{◌↔◌, IsTrue, slice_index_or}
use Rattle.std.proofs.lemmas.List.{length-map}
use Rattle.std.proofs.lemmas.Option.{slice_get-map, slice_get_within, get_or_from_slice_get}
use Rattle.mc_igmp.specs.declared.record.Record.{Record}
use Rattle.mc_igmp.specs.Wants.{Wants}
use Rattle.mc_topology.specs.declared.flow.Flow.{Flow}
use Rattle.mc_topology.specs.Topology.{TopologyValue, IsValidTopology}
use Rattle.mc_theory.specs.Nets.{Row}
use Rattle.mc_forward.specs.Domains.{TablesValue, VifsValue, AreRows, AreVifs, IsDomain}
use Rattle.mc_forward.specs.Assembling.{RelatedAtEachIndex, AreAnswers, HaveMatchingCounts}
use Rattle.mc_forward.specs.Assembling.{IsAssembled, AreWanted, domain_of_tables, domain_with}
use Rattle.mc_forward.specs.Assembling.{AreChannelsWanted}
use Rattle.mc_forward.specs.ListedTables.{flow_pairs}
use Rattle.mc_forward.proofs.IndexLemmas.{slice_get-exists}

-- what the rows of wants mean, LAN by LAN and flow by flow
pub wants-at_lan_and_flow : (flows : List Flow) (reports : List (List Record)) (wants : List (List Bool))
    → length wants ≡ length reports
    → RelatedAtEachIndex (AreWanted flows) reports wants → (lan flow : ℕ) (records : List Record) (f : Flow)
    → slice_get reports lan ≡ Some records
    → slice_get flows flow ≡ Some f
    → IsTrue (slice_index_or (slice_index_or wants lan []) flow false)
    ↔ Wants records f.group f.source
wants-at_lan_and_flow flows reports wants size each lan flow records f at here =
    let within : lan < length wants =
    (let lt = slice_get_within reports lan records at in omega (arith, lt, size)) in
    let row = slice_get-exists wants lan within in
    let own = each lan records row.0 at row.1 in
    let inside : flow < length row.0 =
    (let lt = slice_get_within flows flow f here in omega (arith, lt, own.count)) in
    let flag = slice_get-exists row.0 flow inside in
    let read : slice_index_or (slice_index_or wants lan []) flow false ≡ flag.0 =
    ap (λ (r : List Bool). get_or r flow false) (get_or_from_slice_get wants lan row.0 [] row.1)
    ∙ get_or_from_slice_get row.0 flow flag.0 false flag.1 in
    subst (λ (b : Bool). IsTrue b ↔ Wants records f.group f.source) (sym read)
    (own.each flow f flag.0 here flag.1)

-- the answers make a domain
pub is_domain-from_parts : (t : TopologyValue) (vifs : List VifsValue) (rows : List (List Row))
    (wants : List (List Bool)) → IsValidTopology t → AreVifs t vifs → AreRows t rows
    → AreAnswers t wants → IsDomain (domain_with t vifs rows wants)
is_domain-from_parts t vifs rows wants rules are_vifs are_rows answers = record {
  topology = rules;
  vifs = are_vifs;
  rows = are_rows;
  lans = answers.lans;
  flows = answers.flows;
}

-- which flows are wanted is an answer for each LAN and flow
pub are_answers-from_reports : (t : TopologyValue) (ts : List TablesValue) (rs : List (List Record))
    (wants : List (List Bool)) → HaveMatchingCounts t ts rs
    → length wants ≡ length rs → RelatedAtEachIndex (AreWanted t.flows) rs wants → AreAnswers t wants
are_answers-from_reports t ts rs wants counted size each = record {
  lans = size ∙ counted.lans;
  flows = λ lan wanted at. (
      let lt = slice_get_within wants lan wanted at in
      let records = slice_get-exists rs lan (omega (arith, lt, size)) in
      (each lan records.0 wanted records.1 at).count);
}

-- so the domain with these answers is the one that the tables and the reports make
pub is_assembled-from_reports : (t : TopologyValue) (ts : List TablesValue) (rs : List (List Record))
    (wants : List (List Bool))
    → length wants ≡ length rs → RelatedAtEachIndex (AreWanted t.flows) rs wants
    → IsAssembled t ts rs (domain_of_tables t ts wants)
is_assembled-from_reports t ts rs wants size each = record {
  topology = refl;
  vifs = refl;
  rows = refl;
  wants =
      wants-at_lan_and_flow t.flows rs wants size each;
}

-- there is a channel for each flow
pub length-flow_pairs : (flows : List Flow) (channels : List (ℕ × ℕ)) → channels ≡ flow_pairs flows
    → length channels ≡ length flows
length-flow_pairs flows channels are =
    ap length are ∙ length-map flows (λ (f : Flow). (f.source, f.group))

-- which channels of flows are wanted determines which flows are
pub are_wanted-from_channels : (flows : List Flow) (records : List Record) (channels : List (ℕ × ℕ))
    (wanted : List Bool) → channels ≡ flow_pairs flows
    → AreChannelsWanted channels records wanted → AreWanted flows records wanted
are_wanted-from_channels flows records channels wanted are own = record {
  count = own.count ∙ length-flow_pairs flows channels are;
  each = λ k f b at wanted_is. own.each k (f.source, f.group) b
      (ap (λ (cs : List (ℕ × ℕ)). slice_get cs k) are
      ∙ slice_get-map (λ (g : Flow). (g.source, g.group)) flows k
      ∙ ap (λ o. option_map (λ (g : Flow). (g.source, g.group)) o) at) wanted_is;
}
