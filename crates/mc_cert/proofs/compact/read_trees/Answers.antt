use Rattle.std.proofs.Common.{arith, map}
use Rattle.mc_cert.specs.CertificateText.{tree_text}
use Rattle.mc_cert.specs.Writable.{IsWritableTreeFor}
use Rattle.mc_cert.proofs.SeparatorLemmas.{listed-push, separator_of-comma_next, All-next, map-next}
use Rattle.mc_cert.proofs.compact.read_trees.Goals as goal

-- The separator and the tree's text are the next pieces of the list, and from then on a comma is due.
pub loop-number-preserved : goal.loop-number-preserved
loop-number-preserved c =
    let old = map (λ t. t.items) c.loop-number.trees.items in
    let new = map (λ t. t.items) c.push.new.self.items in
    let made = map-next (λ t. t.items) c.loop-number.trees.items c.push.new.self.items _
    c.in_ok-push.ensures.items in
    record {
      read = listed-push (tree_text c.args.topology.now) _ c.loop-number.rest.now
          c.in-Some.after.now _ c.loop-number.separator.now old new _ made
          c.loop-number.invariant.read c.in-Some.ensures c.in-Ok.ensures.text
          c.loop-number.invariant.separator;
      separator = separator_of-comma_next old new _ made;
      writable = All-next (IsWritableTreeFor c.args.topology.now) old new _ made
          c.loop-number.invariant.writable c.in-Ok.ensures.writable;
      few = omega (arith, c.in_ok-push.ensures.len);
    }
