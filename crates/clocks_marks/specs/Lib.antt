pub mod Marks
pub mod Blocks
pub mod Runs
