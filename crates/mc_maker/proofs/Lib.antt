pub mod FilledLemmas
pub mod ListedLemmas
pub mod CleanRunLemmas
pub mod ServedLemmas
pub mod CleanLemmas
pub mod ExaminedLemmas
