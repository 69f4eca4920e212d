pub mod Laws
pub mod Codes
pub mod Paths
