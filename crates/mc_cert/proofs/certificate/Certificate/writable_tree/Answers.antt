use Rattle.mc_cert.proofs.StoredTrees.{IsWritableTree-from_valid}
use Rattle.mc_cert.proofs.certificate.Certificate.writable_tree.Goals as goal

-- The invariant says of each stored tree that a text can have it, and a flow's tree is one of these.
pub returns-clause-list : goal.returns-clause-list
returns-clause-list c = IsWritableTree-from_valid _ _ c.args.flow c.tree.result.now c.self.invariant
    (rw c.self.view_is c.tree.ensures.tree)
