pub mod Outcome
pub mod Slices
pub mod Found
