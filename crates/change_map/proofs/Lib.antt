pub mod InSets
pub mod InWords
pub mod Bits
pub mod Counts
pub mod Lanes8
