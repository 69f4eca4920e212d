pub mod Slots
pub mod Stages
pub mod SoFar
pub mod Binds
pub mod Names
pub mod Facts
pub mod Progress
