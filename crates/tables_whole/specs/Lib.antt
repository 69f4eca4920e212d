pub mod TableFile
pub mod Answer
pub mod Exact
pub mod Parts
