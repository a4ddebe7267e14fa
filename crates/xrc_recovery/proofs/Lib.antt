pub mod LineLaws
pub mod Changing
pub mod Stopping
pub mod Ending
pub mod Lasting
pub mod Querying
pub mod CopyEnds
pub mod CopyStatuses
