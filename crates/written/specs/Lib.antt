pub mod Spaced
pub mod Written
pub mod Underscores
