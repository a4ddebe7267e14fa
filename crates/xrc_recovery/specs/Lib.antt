pub mod Texts
pub mod Stops
pub mod Reports
pub mod Recoveries
pub mod Statuses
pub mod Queries
pub mod Copies
