pub mod States
pub mod Primaries
