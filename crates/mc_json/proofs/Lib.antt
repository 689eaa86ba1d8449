pub mod NoFloatLemmas
pub mod LoopStepLemmas
pub mod DomainNoFloatLemmas
pub mod NoFeedLemmas
pub mod ObjectLemmas
pub mod EachLineLemmas
pub mod SentVifLemmas
pub mod TreeKeyLemmas
