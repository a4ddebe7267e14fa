pub mod Places
pub mod Bases
pub mod Filters
pub mod OwnWrites
pub mod Batches
