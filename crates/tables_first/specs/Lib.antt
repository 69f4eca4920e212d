pub mod Cuts
pub mod First
pub mod Masks
