pub mod Answer
pub mod Departures
