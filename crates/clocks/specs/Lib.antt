pub mod Meaning
pub mod States
pub mod Encoding
pub mod Accepted
pub mod Safe
pub mod Capped
pub mod Faults
