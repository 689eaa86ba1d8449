pub mod MissedLemmas
pub mod WalkLemmas
pub mod TravelLemmas
pub mod ShownLemmas
pub mod ClosedNetLemmas
pub mod PastStraysLemmas
pub mod PastRunLemmas
