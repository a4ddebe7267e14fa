pub mod Again
pub mod After
pub mod Below
pub mod Fields
pub mod RowsAt
pub mod Spelled
pub mod SpelledSo
pub mod Windows
