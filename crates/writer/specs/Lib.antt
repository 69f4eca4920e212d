pub mod Whole
pub mod WholeLaws
