-- any run: its input, its text, its answer and its fault
pub mod RunInputLemmas
pub mod RunLemmas
pub mod YesRunLemmas
pub mod FaultLemmas
-- the runs
mod WantsReadingLemmas
mod WantsLemmas
mod CheckTextLemmas
pub mod VerdictLines
pub mod YesLines
mod CheckLemmas
pub mod MadeSoFarLemmas
pub mod MakeLemmas
mod CertifiedLemmas
mod ReplayLemmas
mod PackingLemmas
-- the text of a refusal
mod LineFrontLemmas
mod RefusalTextLemmas
