pub mod Between
pub mod GroupEntries
