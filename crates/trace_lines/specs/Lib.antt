pub mod Pieces
pub mod Lines
pub mod Traces
pub mod Refusals
