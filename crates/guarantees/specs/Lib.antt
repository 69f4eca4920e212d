pub mod Texts
pub mod Demands
pub mod Comparisons
pub mod Implementations
pub mod Lengths
pub mod Parallel
pub mod Assignments
pub mod Joining
