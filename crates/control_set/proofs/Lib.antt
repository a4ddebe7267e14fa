pub mod Again
pub mod Chosen
pub mod Stands
pub mod Lengths
pub mod Keeps
pub mod Reading
pub mod Spelled
