-- A text denotes the topology that it is read as, and is read as the one that it denotes.
use Rattle.std.proofs.Common.{◌≡◌, ◌&&◌, ℕ, pos, Bool, true, false, cond, List}
use Rattle.std.proofs.Common.{length, codes, Ok, Err, nat_le, le-leb, refl, sym, ap, subst}
use Rattle.std.proofs.Common.{◌∙◌}
use Rattle.std.specs.Option.{ok_or}
use Rattle.std.specs.Ordering.{int_eq}
use Rattle.std.specs.Str.{is_utf8}
use Rattle.std.specs.Cmp.{signed_Decides}
use Rattle.std.proofs.lemmas.Bool.{leb-true, and_parts}
use Rattle.std.proofs.lemmas.Bool.{false≢true}
use Rattle.std.proofs.lemmas.Str.{IsUtf8-from_is_utf8, is_utf8-from_IsUtf8}
use Rattle.toml.specs.Data.{Members}
use Rattle.toml.specs.Parse.{parse_document}
use Rattle.std.proofs.Math.Bool.{and-true}
use Rattle.mc_topology.specs.declared.fault.TopologyFaultKind.TheVariants.{NotToml, BadVersion}
use Rattle.mc_topology.specs.declared.fault.TopologyFaultKind.TheVariants.{UnknownKey}
use Rattle.mc_topology.specs.declared.fault.TopologyFaultKind.TheVariants.{TooMany}
use Rattle.mc_topology.specs.Document.{has_only, number_at}
use Rattle.mc_topology.specs.Lans.{lans_in}
use Rattle.mc_topology.specs.Routers.{routers_in}
use Rattle.mc_topology.specs.Interfaces.{interfaces_in}
use Rattle.mc_topology.specs.Sources.{sources_in}
use Rattle.mc_topology.specs.Flows.{flows_in}
use Rattle.mc_topology.specs.Bounds.{is_bounded}
use Rattle.mc_topology.specs.Reading.{top_keys, require_utf8, parse_toml, table_of, document_of}
use Rattle.mc_topology.specs.Reading.{check_version, topology_in, parse_topology, parse_unbounded_topology}
use Rattle.mc_topology.specs.Denotation.{HasNumber}
use Rattle.mc_topology.specs.Denotation.{DenotesDocument, DenotesTopology}
use Rattle.mc_topology.specs.Denotation.{DenotesBoundedTopology}
use Rattle.mc_topology.specs.Topology.{TopologyValue}
use Rattle.mc_topology.proofs.Fields.{HasNumber-from_number_at, number_at-from_HasNumber}
use Rattle.mc_topology.proofs.Steps.{bind_ok, test_ok, ok_or_ok, ok_injective}
use Rattle.mc_topology.proofs.Steps.{located_ok}
use Rattle.mc_topology.proofs.SectionTexts.{flows_in-denotes, flows_in-from_denotes}
use Rattle.mc_topology.proofs.SectionTexts.{interfaces_in-denotes, interfaces_in-from_denotes}
use Rattle.mc_topology.proofs.SectionTexts.{lans_in-denotes, lans_in-from_denotes}
use Rattle.mc_topology.proofs.SectionTexts.{routers_in-denotes, routers_in-from_denotes}
use Rattle.mc_topology.proofs.SectionTexts.{sources_in-denotes, sources_in-from_denotes}

-- ---- the document

-- where the keys and the version pass, the keys are known and the version is 1
HasNumber-from_check_version : (ms : Members) → check_version ms ≡ Ok tt → (has_only top_keys ms ≡ true)
    × HasNumber (codes "version") ms 1
unfolding check_version
HasNumber-from_check_version ms e =
    let t = test_ok (has_only top_keys ms) UnknownKey _ tt e in
    let a = bind_ok (number_at (codes "version") ms)
    (λ v. cond (int_eq v (pos 1)) (Ok tt) (Err BadVersion)) tt t.1 in
    let one = test_ok (int_eq a.0 (pos 1)) BadVersion (Ok tt) tt a.2 in
    let same : a.0 ≡ pos 1 = (signed_Decides a.0 (pos 1)).0 one.0 in
    (t.0, HasNumber-from_number_at (codes "version") ms (pos 1) (a.1 ∙ ap Ok same))

-- and known keys and the version 1 pass
check_version-from_HasNumber : (ms : Members) → has_only top_keys ms ≡ true → HasNumber (codes "version") ms 1
    → check_version ms ≡ Ok tt
unfolding check_version
check_version-from_HasNumber ms keys one =
    rw (keys, number_at-from_HasNumber (codes "version") ms (pos 1) one) refl

-- a table that is read denotes what is read
pub topology_in-denotes : (ms : Members) (t : TopologyValue) → topology_in ms ≡ Ok t
    → DenotesDocument ms t
unfolding topology_in
topology_in-denotes ms t e =
    let version = located_ok _ (check_version ms) _ t e in
    let lans = bind_ok (lans_in ms) _ t version.2 in
    let routers = bind_ok (routers_in ms) _ t lans.2 in
    let interfaces = bind_ok (interfaces_in lans.0 routers.0 ms) _ t routers.2 in
    let sources = bind_ok (sources_in lans.0 ms) _ t interfaces.2 in
    let flows = bind_ok (flows_in sources.0 ms) _ t sources.2 in
    let top = HasNumber-from_check_version ms version.1 in
    let flow = flows_in-denotes sources.0 ms flows.0 flows.1 in
    let made : TopologyValue = record {
      lans = lans.0;
      routers = routers.0;
      interfaces = interfaces.0;
      sources = sources.0;
      flows = flows.0;
    } in
    subst (λ (x : TopologyValue). DenotesDocument ms x) (ok_injective made t flows.2)
    (record {
      keys = top.0;
      version = top.1;
      lans = lans_in-denotes ms lans.0 lans.1;
      routers = routers_in-denotes ms routers.0 routers.1;
      interfaces = interfaces_in-denotes lans.0 routers.0 ms interfaces.0 interfaces.1;
      sources = sources_in-denotes lans.0 ms sources.0 sources.1;
      flows = flow.0;
      some_flow = flow.1;
    })

-- and what a table denotes is read
topology_in-from_denotes : (ms : Members) (t : TopologyValue) → DenotesDocument ms t → topology_in ms ≡ Ok t
unfolding topology_in
topology_in-from_denotes ms t is =
    rw (
      check_version-from_HasNumber ms is.keys is.version,
      lans_in-from_denotes ms t.lans is.lans,
      routers_in-from_denotes ms t.routers is.routers,
      interfaces_in-from_denotes t.lans t.routers ms t.interfaces is.interfaces,
      sources_in-from_denotes
          t.lans ms t.sources is.sources,
      flows_in-from_denotes t.sources ms t.flows is.flows is.some_flow,
    )
    refl

-- ---- the text

-- a text that is read without the bounds denotes what is read
pub parse_unbounded_topology-denotes : (text : List ℕ) (t : TopologyValue)
    → parse_unbounded_topology text ≡ Ok t
    → DenotesTopology text t
unfolding parse_unbounded_topology table_of parse_toml
parse_unbounded_topology-denotes text t e =
    let a = located_ok _ (table_of text) topology_in t e in
    let small = test_ok (nat_le (length text) 16777216) TooMany _ a.0 a.1 in
    let utf8 = bind_ok (require_utf8 text) (λ x. ok_or (parse_document x) NotToml) a.0 small.1 in
    let is = test_ok (is_utf8 text) NotToml (Ok text) utf8.0 utf8.1 in
    let same : text ≡ utf8.0 = ok_injective text utf8.0 is.1 in
    record {
      document = a.0;
      few = leb-true (length text) 16777216 small.0;
      utf8 = IsUtf8-from_is_utf8 text is.0;
      reads = ap parse_document same ∙ ok_or_ok (parse_document utf8.0) NotToml a.0 utf8.2;
      denotes = topology_in-denotes a.0 t a.2;
    }

-- and what a text denotes is read without the bounds
pub parse_unbounded_topology-from_denotes : (text : List ℕ) (t : TopologyValue) → DenotesTopology text t
    → parse_unbounded_topology text ≡ Ok t
unfolding parse_unbounded_topology table_of parse_toml
parse_unbounded_topology-from_denotes text t is =
    rw (
      le-leb (length text) 16777216 is.few,
      is_utf8-from_IsUtf8 text is.utf8,
      is.reads,
      topology_in-from_denotes is.document t is.denotes,
    ) refl

-- a text within the bounds is read as without them
parse_topology-bounded : (text : List ℕ) → is_bounded text ≡ true
    → parse_topology text ≡ parse_unbounded_topology text
unfolding parse_topology document_of parse_unbounded_topology table_of
parse_topology-bounded text bounded = rw (bounded, and-true (nat_le (length text) 16777216)) refl

-- and one beyond them is refused
parse_topology-unbounded : (text : List ℕ) (t : TopologyValue) → is_bounded text ≡ false
    → parse_topology text ≡ Ok t → ⊥
unfolding parse_topology document_of
parse_topology-unbounded text t beyond e =
    let a = located_ok _ (document_of text) topology_in t e in
    let small = test_ok (nat_le (length text) 16777216 && is_bounded text) TooMany (parse_toml text)
    a.0 a.1 in
    let (few, bounded) = and_parts (nat_le (length text) 16777216) (is_bounded text) small.0 in
    false≢true (sym beyond ∙ bounded)

-- a text that is read denotes the topology and is within the bounds, as one beyond them is refused
parse_topology-denotes_by_cases : (b : Bool) (text : List ℕ) (t : TopologyValue) → is_bounded text ≡ b
    → parse_topology text ≡ Ok t → DenotesBoundedTopology text t
parse_topology-denotes_by_cases true text t is e = record {
  denotes = parse_unbounded_topology-denotes text t (sym (parse_topology-bounded text is) ∙ e);
  bounded = is;
}
parse_topology-denotes_by_cases false text t is e = absurd (parse_topology-unbounded text t is e)

-- a text that is read is within the bounds, and denotes what is read
pub parse_topology-denotes : (text : List ℕ) (t : TopologyValue) → parse_topology text ≡ Ok t
    → DenotesBoundedTopology text t
parse_topology-denotes text t e = parse_topology-denotes_by_cases (is_bounded text) text t refl e

-- a text within the bounds that denotes a topology is read as that
pub parse_topology-from_denotes : (text : List ℕ) (t : TopologyValue) → DenotesBoundedTopology text t
    → parse_topology text ≡ Ok t
parse_topology-from_denotes text t is =
    parse_topology-bounded text is.bounded ∙ parse_unbounded_topology-from_denotes text t is.denotes
