pub mod Standings
pub mod Runs
pub mod Headers
pub mod Endings
pub mod Exports
pub mod Imports
pub mod FollowedTraces
pub mod Versions
