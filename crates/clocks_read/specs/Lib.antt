pub mod Reading
pub mod Loading
pub mod Laws
pub mod Measured
pub mod Loaded
