pub mod Order
pub mod Causes
pub mod MemorySources
pub mod Pulls
