use Rattle.std.proofs.Common.{refl}
use Rattle.mc_bundle.specs.Bundle.{bundle_spelling}
use Rattle.mc_bundle.proofs.BundleLaws.{bundle_of-complete}
use Rattle.mc_files.proofs.PackLemmas.{IsPartName-from_IsPacked}
use Rattle.mc_files.proofs.laws.packed_files_are_read_back.Goals as goal

-- The packed parts have valid names and are within the limits, and each bundle of such parts is read back.
pub returns : goal.returns
returns c = λ files certified parts is. bundle_of-complete (bundle_spelling parts) parts (record {
  names = IsPartName-from_IsPacked files certified parts is;
  limits = is.limits;
  spelled = refl;
})
