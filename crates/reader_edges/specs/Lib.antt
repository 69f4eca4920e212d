pub mod Labels
pub mod Assigns
pub mod Edges
pub mod SoFar
pub mod Parts
pub mod Facts
pub mod Progress
