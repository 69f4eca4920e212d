pub mod Record
pub mod Formed
