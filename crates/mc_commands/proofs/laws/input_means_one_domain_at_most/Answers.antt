use Rattle.mc_input.proofs.UniqueDomain.{MeansDomain-unique, FilesMeanDomain-unique}
use Rattle.mc_commands.proofs.CertifiedLemmas.{means_certified-unique}
use Rattle.mc_commands.proofs.laws.input_means_one_domain_at_most.Goals as goal

-- A bundle has its parts in one way, each part one reading, and a domain is assembled from these in one way.
pub returns-clause-bundle : goal.returns-clause-bundle
returns-clause-bundle c = MeansDomain-unique

-- So the text of the certificate is determined, and with it the lists that it denotes.
pub returns-clause-certified : goal.returns-clause-certified
returns-clause-certified c = means_certified-unique

-- The names of the files and their texts are the parts of a bundle.
pub returns-clause-files : goal.returns-clause-files
returns-clause-files c = FilesMeanDomain-unique
