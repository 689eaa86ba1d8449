-- Reading looks at no byte past the limit of a bundle's size and of one line.
use Rattle.mc_bundle.proofs.BundleFront.{bundle_of-take}
use Rattle.mc_bundle.proofs.laws.bundle_front_decides.Goals as goal

pub returns : goal.returns
returns c = bundle_of-take
