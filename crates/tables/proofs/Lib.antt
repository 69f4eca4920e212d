pub mod Paths
pub mod Broken
