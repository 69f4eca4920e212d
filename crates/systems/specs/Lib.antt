pub mod Definitions
pub mod Tests
pub mod Finite
pub mod Bools
pub mod Renumbered
