pub mod Hits
pub mod GroupRows
pub mod Records
pub mod ChangedRows
pub mod ToldRows
pub mod Deeds
pub mod Laws
