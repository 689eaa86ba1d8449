-- By the same entries.
use Rattle.mc_theory.proofs.ReorderedEntries.{is_tree-reordering, is_accepted-permutation}
use Rattle.mc_theory.proofs.certificate_laws.order_of_entries_does_not_matter.Goals as goal

pub returns-clause-tree : goal.returns-clause-tree
returns-clause-tree c = is_tree-reordering

pub returns-clause-permutation : goal.returns-clause-permutation
returns-clause-permutation c = is_accepted-permutation
