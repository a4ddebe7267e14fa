pub mod Entries
pub mod Rooms
pub mod Maps
pub mod Queues
pub mod Waitings
pub mod Groups
pub mod PlacedEntries
pub mod Laws
