pub mod Blocks
pub mod Regions
pub mod Runs
pub mod Laws
