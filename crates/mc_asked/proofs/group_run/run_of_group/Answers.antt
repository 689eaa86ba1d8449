use Rattle.std.proofs.Common.{ℕ, leb, ltb, rules}
use Rattle.std.proofs.lemmas.List.Sorted.{IsPartitionPoint-from_clause, IsPartitionedBy-leb}
use Rattle.std.proofs.lemmas.List.Sorted.{IsPartitionedBy-ltb}
use Rattle.mc_asked.proofs.GroupRunLemmas.{firsts-ascend, is_run-from_points}
use Rattle.mc_asked.proofs.group_run.run_of_group.Goals as goal

-- The groups of ascending pairs ascend. So the first partition point is behind all lower groups and the
-- second is before all higher ones, and between them are exactly the pairs of this group.
pub returns : goal.returns
returns c =
    let pairs = c.args.pairs.now in
    let group = c.args.group in
    let up = firsts-ascend pairs c.requires.sorted in
    let first = IsPartitionPoint-from_clause (λ (p : ℕ × ℕ). ltb p.0 group) pairs
    c.partition_point-start.result
    c.partition_point-start.ensures.partitioned (IsPartitionedBy-ltb (λ (p : ℕ × ℕ). p.0) pairs group up)
    (λ a r q k. search rules) in
    let second = IsPartitionPoint-from_clause (λ (p : ℕ × ℕ). leb p.0 group) pairs
    c.partition_point-end.result
    c.partition_point-end.ensures.partitioned (IsPartitionedBy-leb (λ (p : ℕ × ℕ). p.0) pairs group up)
    (λ a r q k. search rules) in
    is_run-from_points group pairs c.partition_point-start.result c.partition_point-end.result
    c.partition_point-start.ensures.bound c.partition_point-end.ensures.bound first second
