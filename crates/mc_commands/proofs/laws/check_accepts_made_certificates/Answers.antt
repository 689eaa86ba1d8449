use Rattle.mc_commands.proofs.CertifiedLemmas.{is_accepted-made_list, reading_of-made_text}
use Rattle.mc_commands.proofs.CertifiedLemmas.{is_verdict_text-only_yes, is_verdict_text-made_bundle}
use Rattle.mc_commands.proofs.laws.check_accepts_made_certificates.Goals as goal

-- A certificate that is printed from lists is read as these lists, with or without the line feed.
pub returns-clause-read : goal.returns-clause-read
returns-clause-read c = reading_of-made_text

-- Each list was made for a flow that is certified, and is accepted since it names the copies of a clean
-- travel.
pub returns-clause-accepted : goal.returns-clause-accepted
returns-clause-accepted c = is_accepted-made_list

-- With the certificate as one more part the bundle means the same domain, and the checker says yes to each
-- accepted list.
pub returns-clause-yes : goal.returns-clause-yes
returns-clause-yes c = is_verdict_text-made_bundle

-- A bundle has one verdict text at most, and that one says yes.
pub returns-clause-only : goal.returns-clause-only
returns-clause-only c = λ text written bundle parts made is more all printed verdicts.
    is_verdict_text-only_yes text written bundle parts all printed made is more verdicts
