pub mod InARow
pub mod Since
pub mod Telling
