pub mod Outcome
pub mod Ready
