pub mod Fronts
pub mod CountedReads
pub mod Steps
pub mod TrackReads
