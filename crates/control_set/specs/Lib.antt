pub mod Laws
pub mod Marks
pub mod Places
pub mod Slots
