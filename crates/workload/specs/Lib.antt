pub mod Traces
pub mod Scripts
pub mod Sites
pub mod Tallies
pub mod Summaries
pub mod Laws
