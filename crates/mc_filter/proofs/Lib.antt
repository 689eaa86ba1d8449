pub mod AscendingLemmas
pub mod AskedLemmas
pub mod ListedSourcesLemmas
pub mod TallyLemmas
pub mod ChannelLemmas
pub mod FilterLemmas
pub mod MergedLemmas
pub mod SameRecordLemmas
