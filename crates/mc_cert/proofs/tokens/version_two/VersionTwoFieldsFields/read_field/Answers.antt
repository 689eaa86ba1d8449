use Rattle.std.proofs.Common.{ℕ, List, map, Some, subst, sym, arith, ap}
use Rattle.std.specs.Prelude.{option_map}
use Rattle.serde_json.specs.Data.{put}
use Rattle.mc_cert.specs.Keys.{key_name}
use Rattle.mc_cert.specs.Tokens.{HoldsVersionTwo}
use Rattle.mc_cert.proofs.FieldLemmas.{HoldsVersionTwo-flows, HoldsVersionTwo-trees, HoldsVersionTwo-version}
use Rattle.mc_cert.proofs.TokenLemmas.{Reads-deeper}
use Rattle.mc_cert.proofs.tokens.version_two.VersionTwoFieldsFields.read_field.Goals as goal

-- Each value replaces an earlier one of its key, in the fields as in the object, and leaves what was read
-- under the other keys.
pub returns-in_ok-numbers-in-Flows : goal.returns-in_ok-numbers-in-Flows
returns-in_ok-numbers-in-Flows c =
    let f = c.args.self in
    let t = c.args.topology.now in
    let numbers = option_map (λ ns. ns.items) f.flows in
    let trees = option_map (λ ts. map (λ es. es.items) ts.items) f.trees in
    let new = c.in_ok-numbers-in-Flows.numbers.items in
    let (d, reads, is) = c.in_ok-numbers-in-Flows.ensures in (
      d,
      Reads-deeper 2 3 c.args.reader.now d c.tree_numbers_value.new.reader (omega arith) reads,
      λ ms held. subst (λ (k : List ℕ). HoldsVersionTwo t f.version (Some new) trees (put k d ms))
          (sym (ap key_name c.in-Flows.is))
          (HoldsVersionTwo-flows t f.version numbers trees d ms new is held),
    )

pub returns-in_ok-trees-in-Trees : goal.returns-in_ok-trees-in-Trees
returns-in_ok-trees-in-Trees c =
    let f = c.args.self in
    let t = c.args.topology.now in
    let numbers = option_map (λ ns. ns.items) f.flows in
    let trees = option_map (λ ts. map (λ es. es.items) ts.items) f.trees in
    let new = map (λ es. es.items) c.in_ok-trees-in-Trees.trees.items in
    let (d, reads, is) = c.in_ok-trees-in-Trees.ensures in (
      d,
      reads,
      λ ms held. subst (λ (k : List ℕ). HoldsVersionTwo t f.version numbers (Some new) (put k d ms))
          (sym (ap key_name c.in-Trees.is))
          (HoldsVersionTwo-trees t f.version numbers trees d ms new is held),
    )

pub returns-in_ok-version-in-Version : goal.returns-in_ok-version-in-Version
returns-in_ok-version-in-Version c =
    let f = c.args.self in
    let t = c.args.topology.now in
    let numbers = option_map (λ ns. ns.items) f.flows in
    let trees = option_map (λ ts. map (λ es. es.items) ts.items) f.trees in
    let new = c.in_ok-version-in-Version.version in
    let (d, reads, is) = c.in_ok-version-in-Version.ensures.value in (
      d,
      Reads-deeper 0 3 c.args.reader.now d c.whole_value.new.reader (omega arith) reads,
      λ ms held. subst (λ (k : List ℕ). HoldsVersionTwo t (Some new) numbers trees (put k d ms))
          (sym (ap key_name c.in-Version.is))
          (HoldsVersionTwo-version t f.version numbers trees d ms new is held),
    )
