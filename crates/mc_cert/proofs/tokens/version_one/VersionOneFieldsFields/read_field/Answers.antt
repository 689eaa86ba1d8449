use Rattle.std.proofs.Common.{ℕ, List, map, Some, subst, sym, arith, ap}
use Rattle.std.specs.Prelude.{option_map}
use Rattle.serde_json.specs.Data.{put}
use Rattle.mc_cert.specs.Keys.{key_name}
use Rattle.mc_cert.specs.Tokens.{HoldsVersionOne}
use Rattle.mc_cert.proofs.FieldLemmas.{HoldsVersionOne-flows, HoldsVersionOne-version}
use Rattle.mc_cert.proofs.TokenLemmas.{Reads-deeper}
use Rattle.mc_cert.proofs.tokens.version_one.VersionOneFieldsFields.read_field.Goals as goal

-- Each value replaces an earlier one of its key, in the fields as in the object, and leaves what was read
-- under the other key.
pub returns-in_ok-flows-in-Flows : goal.returns-in_ok-flows-in-Flows
returns-in_ok-flows-in-Flows c =
    let f = c.args.self in
    let t = c.args.topology.now in
    let old = option_map (λ fs. map (λ es. es.items) fs.items) f.flows in
    let new = map (λ es. es.items) c.in_ok-flows-in-Flows.flows.items in
    let (d, reads, is) = c.in_ok-flows-in-Flows.ensures in (
      d,
      reads,
      λ ms held. subst (λ (k : List ℕ). HoldsVersionOne t f.version (Some new) (put k d ms))
          (sym (ap key_name c.in-Flows.is))
          (HoldsVersionOne-flows t f.version old d ms new is held),
    )

pub returns-in_ok-version-in-Version : goal.returns-in_ok-version-in-Version
returns-in_ok-version-in-Version c =
    let f = c.args.self in
    let t = c.args.topology.now in
    let old = option_map (λ fs. map (λ es. es.items) fs.items) f.flows in
    let new = c.in_ok-version-in-Version.version in
    let (d, reads, is) = c.in_ok-version-in-Version.ensures.value in (
      d,
      Reads-deeper 0 4 c.args.reader.now d c.whole_value.new.reader (omega arith) reads,
      λ ms held. subst (λ (k : List ℕ). HoldsVersionOne t (Some new) old (put k d ms))
          (sym (ap key_name c.in-Version.is))
          (HoldsVersionOne-version t f.version old d ms new is held),
    )
