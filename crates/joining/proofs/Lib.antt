pub mod Laws
pub mod Built
pub mod Joined
pub mod Judged
