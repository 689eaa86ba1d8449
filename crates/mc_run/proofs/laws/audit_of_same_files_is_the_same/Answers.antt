use Rattle.mc_run.proofs.UniqueAudit.{is_audit_text-unique}
use Rattle.mc_run.proofs.laws.audit_of_same_files_is_the_same.Goals as goal

-- Files mean one domain at most, with one summary of each cache and one list of unanswered wants; the text
-- and the answer are functions of these.
pub returns : goal.returns
returns c = is_audit_text-unique c.summaries_are_unique.ensures c.asked_is_unique.ensures
