pub mod Bringing
pub mod Commanding
pub mod Going
pub mod GroupEntries
pub mod Homes
pub mod Opening
pub mod Stepping
