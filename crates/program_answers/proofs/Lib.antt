pub mod Fits
pub mod Program
pub mod Implementation
pub mod Joining
