pub mod Prints
pub mod Room
pub mod Fits
