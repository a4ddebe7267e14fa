pub mod Notes
pub mod Calls
pub mod Seats
pub mod Histories
pub mod Queues
