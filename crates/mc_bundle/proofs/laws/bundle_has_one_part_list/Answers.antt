-- A bundle's text is read as its parts, and reading is a function.
use Rattle.mc_bundle.proofs.BundleLaws.{bundle_has_unique_parts}
use Rattle.mc_bundle.proofs.laws.bundle_has_one_part_list.Goals as goal

pub returns : goal.returns
returns c = bundle_has_unique_parts
