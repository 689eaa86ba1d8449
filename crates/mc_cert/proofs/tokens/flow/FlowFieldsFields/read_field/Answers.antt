use Rattle.std.proofs.Common.{ℕ, List, Some, subst, sym, arith, ap}
use Rattle.std.specs.Prelude.{option_map}
use Rattle.serde_json.specs.Data.{put}
use Rattle.mc_cert.specs.Keys.{key_name}
use Rattle.mc_cert.specs.Tokens.{HoldsFlow}
use Rattle.mc_cert.proofs.FieldLemmas.{HoldsFlow-group, HoldsFlow-reached, HoldsFlow-source}
use Rattle.mc_cert.proofs.TokenLemmas.{Reads-deeper}
use Rattle.mc_cert.proofs.tokens.flow.FlowFieldsFields.read_field.Goals as goal

-- Each value replaces an earlier one of its key, in the fields as in the object, and leaves what was read
-- under the other keys.
pub returns-in_ok-group-in-Group : goal.returns-in_ok-group-in-Group
returns-in_ok-group-in-Group c =
    let f = c.args.self in
    let t = c.args.topology.now in
    let old = option_map (λ es. es.items) f.reached in
    let new = c.in_ok-group-in-Group.group in
    let (d, reads, is) = c.in_ok-group-in-Group.ensures in (
      d,
      Reads-deeper 0 2 c.args.reader.now d c.address_value.new.reader (omega arith) reads,
      λ ms held. subst (λ (k : List ℕ). HoldsFlow t (Some new) f.source old (put k d ms))
          (sym (ap key_name c.in-Group.is))
          (HoldsFlow-group t f.group f.source old d ms new is held),
    )

pub returns-in_ok-entries-in-Reached : goal.returns-in_ok-entries-in-Reached
returns-in_ok-entries-in-Reached c =
    let f = c.args.self in
    let t = c.args.topology.now in
    let old = option_map (λ es. es.items) f.reached in
    let new = c.in_ok-entries-in-Reached.entries.items in
    let (d, reads, is) = c.in_ok-entries-in-Reached.ensures in (
      d,
      reads,
      λ ms held. subst (λ (k : List ℕ). HoldsFlow t f.group f.source (Some new) (put k d ms))
          (sym (ap key_name c.in-Reached.is))
          (HoldsFlow-reached t f.group f.source old d ms new is held),
    )

pub returns-in_ok-source-in-Source : goal.returns-in_ok-source-in-Source
returns-in_ok-source-in-Source c =
    let f = c.args.self in
    let t = c.args.topology.now in
    let old = option_map (λ es. es.items) f.reached in
    let new = c.in_ok-source-in-Source.source in
    let (d, reads, is) = c.in_ok-source-in-Source.ensures in (
      d,
      Reads-deeper 0 2 c.args.reader.now d c.address_value-in-Source.new.reader (omega arith) reads,
      λ ms held. subst (λ (k : List ℕ). HoldsFlow t f.group (Some new) old (put k d ms))
          (sym (ap key_name c.in-Source.is))
          (HoldsFlow-source t f.group f.source old d ms new is held),
    )
