use Rattle.mc_bundle.proofs.BundleLaws.{bundle_of-result_is_bundle, bundle_of-result_is_parts}
use Rattle.mc_bundle.proofs.FaultLemmas.{bundle_of-result_fault}
use Rattle.mc_bundle.proofs.bundle.Bundle.read.Goals as goal

-- What `from_text` answers is `bundle_of` of the text, and where that is a list, the text spells the list.
pub returns-clause-found : goal.returns-clause-found
returns-clause-found c = bundle_of-result_is_bundle c.args.text.now c.from_text.result c.from_text.ensures

-- The reading of a bundle's text is its parts, so that the answer is theirs unless memory runs out.
pub returns-clause-only : goal.returns-clause-only
returns-clause-only c = bundle_of-result_is_parts c.args.text.now c.from_text.result c.from_text.ensures

-- Each step of `bundle_of` fails with a fault of framing alone; only memory adds another.
pub returns-clause-faults : goal.returns-clause-faults
returns-clause-faults c = bundle_of-result_fault c.args.text.now c.from_text.result c.from_text.ensures
