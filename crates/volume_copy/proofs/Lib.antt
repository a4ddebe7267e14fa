pub mod Ranges
pub mod Faults
pub mod Targets
pub mod Progress
pub mod Copying
pub mod Reading
pub mod CopiedTracks
pub mod CopiedCylinders
