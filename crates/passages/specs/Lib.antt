pub mod Points
pub mod Lasting
pub mod Telling
pub mod Laws
