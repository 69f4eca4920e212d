pub mod Words
pub mod Loops
pub mod Taken
