pub mod Stops
pub mod Saying
