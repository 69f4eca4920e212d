pub mod Two
pub mod Measured
pub mod Loaded
pub mod Answers
