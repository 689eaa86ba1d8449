use Rattle.std.proofs.Common.{◌∙◌, rules}
use Rattle.mc_input.specs.InputView.{certificate_text}
use Rattle.mc_input.proofs.MeansLemmas.{MeansDomain-from_result, same_domain-from_result}
use Rattle.mc_input.proofs.MeansLemmas.{input_of_bundle-Err_of_result, certificate_text-expected}
use Rattle.mc_input.proofs.MeansLemmas.{ConsumesUpTo-from_ConsumesWithin}
use Rattle.mc_input.proofs.MeansLemmas.{ConsumesUpTo-same}
use Rattle.mc_input.proofs.domain.read_bundle_domain.Goals as goal

-- What is read of the parts is the input that the whole bundle denotes, and the domain consists of
-- what is kept of that input.
pub returns-clause-means : goal.returns-clause-means
returns-clause-means g c =
    MeansDomain-from_result (λ read. read.domain) (λ read. certificate_text read.certificate) c.args.certified
    c.new-parts.result c.new-parts.ensures.start (g.R.Input.remaining c.args.input.now)
    c.read_parts-read.result c.new-parts.ensures.remaining c.read_parts-read.ensures.rules
    c.read_parts-read.ensures.read

-- A bundle means one domain at most; so one that means a domain has no fault, and what is read of it
-- is that domain.
pub returns-clause-only : goal.returns-clause-only
returns-clause-only g c = λ text certificate domain remaining is means.
    same_domain-from_result (λ read. read.domain) (λ read. certificate_text read.certificate) c.args.certified
    c.new-parts.result c.new-parts.ensures.start c.read_parts-read.result text certificate domain
    (c.new-parts.ensures.remaining ∙ remaining) is means c.read_parts-read.ensures.rules
    (certificate_text-expected (λ read. read.certificate) c.args.certified c.read_parts-read.result
    c.read_parts-read.ensures.certified) c.read_parts-read.ensures.read
    c.read_parts-read.ensures.fault

-- The parts' reader began at the front of the text, so that its first fault is that of the bundle.
pub returns-clause-fault : goal.returns-clause-fault
returns-clause-fault g c = λ text remaining.
    input_of_bundle-Err_of_result (λ read. read.domain) (λ read. certificate_text read.certificate)
    c.args.certified c.new-parts.result c.new-parts.ensures.start c.read_parts-read.result text
    (c.new-parts.ensures.remaining ∙ remaining) c.read_parts-read.ensures.fault

-- The parts' reader gives up after the size of the largest bundle and a line.
pub returns-clause-consumed : goal.returns-clause-consumed
returns-clause-consumed g c =
    ConsumesUpTo-same
    (ConsumesUpTo-from_ConsumesWithin _ _ _ _ c.new-parts.ensures.most c.read_parts-read.ensures.advances.1)
    c.new-parts.ensures.remaining (search rules)
