pub mod Scan
pub mod Clamped
pub mod Kinds
pub mod Tokens
pub mod Progress
pub mod Spans
