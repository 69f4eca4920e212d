pub mod Channels
pub mod Only
pub mod Table
pub mod Lowest
pub mod Laws
pub mod Spelled
pub mod Equal
pub mod Counts
