pub mod Parts
pub mod Conjunction
pub mod Exactly
pub mod Matched
pub mod Carried
