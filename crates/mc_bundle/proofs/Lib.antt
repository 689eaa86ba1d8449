pub mod FedPieceLemmas
pub mod BundleWords
pub mod BundlePlaces
pub mod BundleLaws
pub mod BundleFront
mod FaultLemmas
pub mod Pieces
pub mod PartsLemmas
pub mod PartsMeaning
pub mod PartsLimitLemmas
pub mod RestOfBundleLemmas
