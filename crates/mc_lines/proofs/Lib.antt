pub mod PieceLemmas
pub mod FillLemmas
pub mod NoFeedLemmas
pub mod WellFormedLemmas
pub mod IndentedLemmas
pub mod FirstLinesLemmas
pub mod LeakLineLemmas
pub mod BehindTextLemmas
