pub mod Bits
pub mod Classes
pub mod Joining
