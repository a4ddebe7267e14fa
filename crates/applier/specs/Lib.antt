pub mod Slots
pub mod Jobs
pub mod Sides
pub mod Writes
pub mod Disks
pub mod Loans
pub mod Returns
