-- the lines of one flow in an audit
mod ExplanationLemmas
mod MissedLemmas
mod ShownTrees
mod FlowPushedLemmas
mod AuditFlows
-- the lines of an audit before and after those of the flows
mod AuditAskedLemmas
mod AuditEndLemmas
mod LinesWithoutYes
mod FlowLinesWithoutYes
mod EndLinesWithoutYes
mod AuditLines
-- the whole text of an audit, and what it says
mod AuditTextLemmas
mod FlowAnswerLemmas
mod FlowClaimLemmas
mod AuditLemmas
mod WholeDomainLemmas
mod YesLines
mod AuditFaultLemmas
mod AuditOutputLemmas
-- an audit of the same files is the same
mod UniqueTravel
mod UniqueExamination
mod UniqueSearch
mod UniqueBehind
mod UniqueExplanation
mod UniqueFlowLines
mod UniqueFlowAnswers
mod UniqueAudit
