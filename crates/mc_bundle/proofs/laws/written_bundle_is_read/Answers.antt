-- Reading takes off the front what the spelling put there, part by part.
use Rattle.std.proofs.Common.{refl}
use Rattle.mc_bundle.specs.Bundle.{bundle_spelling}
use Rattle.mc_bundle.proofs.BundleLaws.{bundle_of-complete}
use Rattle.mc_bundle.proofs.laws.written_bundle_is_read.Goals as goal

pub returns : goal.returns
returns c = λ parts names limits. bundle_of-complete (bundle_spelling parts) parts
    (record { names = names; limits = limits; spelled = refl })
