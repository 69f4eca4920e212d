pub mod Outcome
pub mod Slices
