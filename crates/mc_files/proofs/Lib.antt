pub mod PartMismatchLemmas
mod NameLemmas
mod PackLemmas
pub mod PartLemmas
pub mod PartNames
mod RunLemmas
pub mod SlotLemmas
