pub mod Words
pub mod Statuses
pub mod Saying
pub mod Labelling
pub mod Generating
pub mod Laws
pub mod Limits
