pub mod Sinks
pub mod Pieces
pub mod Tracks
pub mod Jobs
pub mod Commands
pub mod NamedVolumes
pub mod Laws
