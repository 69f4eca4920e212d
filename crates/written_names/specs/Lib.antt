pub mod Spelled
pub mod Names
pub mod Channels
pub mod Read
pub mod Inside
pub mod InsideLaws
