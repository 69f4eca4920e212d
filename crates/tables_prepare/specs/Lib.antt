pub mod Prepared
pub mod Paths
pub mod Callers
