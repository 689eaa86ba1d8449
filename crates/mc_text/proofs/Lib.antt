pub mod Lists
pub mod Searches
pub mod LineLemmas
pub mod PieceLemmas
pub mod ResultLemmas
pub mod StepLemmas
pub mod AddrLemmas
pub mod IndexLemmas
pub mod PairLemmas
pub mod AddressDigitLemmas
pub mod DigitLaneLemmas
pub mod AddressReading
pub mod AddressTests
pub mod NumberReading
pub mod ByteLemmas
mod FindByte
pub mod GroupRangeLemmas
