pub mod Targets
pub mod Pairs
pub mod Jobs
pub mod Answers
