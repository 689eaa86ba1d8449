pub mod SourceFilter
pub mod Merged
pub mod FilterBuilding
pub mod Tallies
pub mod ChannelPlaces
pub mod ChannelWants
pub use Rattle.mc_igmp.specs.Wants
