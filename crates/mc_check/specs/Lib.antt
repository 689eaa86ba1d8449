pub mod Reasons
pub mod ReasonText
pub mod Verdicts
pub mod FedLans
