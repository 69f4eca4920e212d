pub mod Opened
pub mod Texts
pub mod Records
pub mod Read
pub mod Refused
