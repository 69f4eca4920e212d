pub mod Returned
pub mod Sizes
