use Rattle.mc_commands.proofs.YesLines.{has_line-check_text, is_last_line_yes-check_text}
use Rattle.mc_run.proofs.YesLines.{has_line-audit_text, is_last_line_yes-audit_text, audit_yes-no_excluded_router}
use Rattle.mc_run.proofs.laws.verdict_yes_line_only_where_all_right.Goals as goal

-- The last line is written after the lines of the flows, each of which ends with a line feed.
pub returns-clause-has_line : goal.returns-clause-has_line
returns-clause-has_line c = has_line-check_text

-- No line of a flow starts with the words of a yes, so that only the last one can.
pub returns-clause-last : goal.returns-clause-last
returns-clause-last c = is_last_line_yes-check_text

-- So it is in an audit, in whichever form the verdict is written.
pub returns-clause-audit_has_line : goal.returns-clause-audit_has_line
returns-clause-audit_has_line c = has_line-audit_text

-- Lines of an audit's text start with other words or with spaces, and its objects with other keys.
pub returns-clause-audit_last : goal.returns-clause-audit_last
returns-clause-audit_last c = λ left files o all written is words front rest starts are at.
    is_last_line_yes-audit_text left files o all words written front rest is starts are at

-- A yes needs that no router is excluded.
pub returns-clause-audit_whole : goal.returns-clause-audit_whole
returns-clause-audit_whole c = audit_yes-no_excluded_router
