use Rattle.std.proofs.Common.{refl}
use Rattle.mc_cert.specs.VersionTwo.{tree_no_of}
use Rattle.mc_cert.proofs.version_two.tree_no_of.Goals as goal

-- Each step ended as the definition's, and the last test is passed.
pub returns : goal.returns
unfolding tree_no_of
returns c = record {
  tree = (rw (
    c.in_ok-object.ensures,
    c.in_ok-group.ensures,
    c.in_ok-source.ensures,
    c.in_ok-number.ensures,
    c.in_ok-tree.ensures.number,
    ← c.if-not-are_texts_of_flow.ensures.value,
  ) refl);
}
