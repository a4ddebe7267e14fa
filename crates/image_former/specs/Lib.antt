pub mod Entries
pub mod Changes
pub mod Jobs
pub mod Forms
pub mod Steps
pub mod Links
