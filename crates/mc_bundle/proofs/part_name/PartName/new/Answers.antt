-- The test of a name holds of every name, so that no name is refused.
use Rattle.mc_bundle.proofs.BundleWords.{is_part_name-complete}
use Rattle.mc_bundle.proofs.part_name.PartName.new.Goals as goal

pub returns-then-not-is_part_name-clause-only : goal.returns-then-not-is_part_name-clause-only
returns-then-not-is_part_name-clause-only c = λ named. let test =
    is_part_name-complete c.args.bytes.now named in absurd cc
