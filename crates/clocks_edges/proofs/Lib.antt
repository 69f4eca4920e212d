pub mod LaidLaws
pub mod Turns
