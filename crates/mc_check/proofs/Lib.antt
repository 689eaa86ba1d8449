pub mod BelowLemmas
pub mod FirstEntriesLemmas
pub mod VerdictLemmas
pub mod CheckAllLemmas
pub mod FeedsLemmas
pub mod FedLemmas
