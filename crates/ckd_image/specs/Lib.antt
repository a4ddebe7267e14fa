pub mod Shapes
pub mod ImageTracks
pub mod Laws
