pub mod Outcome
pub mod Ready
pub mod Consistent
