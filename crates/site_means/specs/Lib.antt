pub mod Images
pub mod Walk
pub mod Meaning
pub mod Sight
pub mod Answers
pub mod Steps
pub mod Laws
