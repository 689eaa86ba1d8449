use Rattle.std.proofs.Common.{ℕ, List, Some, subst, sym, ap}
use Rattle.serde_json.specs.Data.{put}
use Rattle.mc_cert.specs.Keys.{key_name}
use Rattle.mc_cert.specs.Tokens.{HoldsSharedFlow}
use Rattle.mc_cert.proofs.FieldLemmas.{HoldsSharedFlow-group, HoldsSharedFlow-source, HoldsSharedFlow-tree}
use Rattle.mc_cert.proofs.tokens.shared_flow.SharedFlowFieldsFields.read_field.Goals as goal

-- Each value replaces an earlier one of its key, in the fields as in the object, and leaves what was read
-- under the other keys.
pub returns-in_ok-group-in-Group : goal.returns-in_ok-group-in-Group
returns-in_ok-group-in-Group c =
    let f = c.args.self in
    let new = c.in_ok-group-in-Group.group in
    let (d, reads, is) = c.in_ok-group-in-Group.ensures in (
      d,
      reads,
      λ ms held. subst (λ (k : List ℕ). HoldsSharedFlow (Some new) f.source f.tree (put k d ms))
          (sym (ap key_name c.in-Group.is))
          (HoldsSharedFlow-group f.group f.source f.tree d ms new is held),
    )

pub returns-in_ok-source-in-Source : goal.returns-in_ok-source-in-Source
returns-in_ok-source-in-Source c =
    let f = c.args.self in
    let new = c.in_ok-source-in-Source.source in
    let (d, reads, is) = c.in_ok-source-in-Source.ensures in (
      d,
      reads,
      λ ms held. subst (λ (k : List ℕ). HoldsSharedFlow f.group (Some new) f.tree (put k d ms))
          (sym (ap key_name c.in-Source.is))
          (HoldsSharedFlow-source f.group f.source f.tree d ms new is held),
    )

pub returns-in_ok-tree-in-Tree : goal.returns-in_ok-tree-in-Tree
returns-in_ok-tree-in-Tree c =
    let f = c.args.self in
    let new = c.in_ok-tree-in-Tree.tree in
    let (d, reads, is) = c.in_ok-tree-in-Tree.ensures.value in (
      d,
      reads,
      λ ms held. subst (λ (k : List ℕ). HoldsSharedFlow f.group f.source (Some new) (put k d ms))
          (sym (ap key_name c.in-Tree.is))
          (HoldsSharedFlow-tree f.group f.source f.tree d ms new is held),
    )
