pub mod WrongNoFloatLemmas
pub mod LineNoFloatLemmas
pub mod WrongObjectLemmas
