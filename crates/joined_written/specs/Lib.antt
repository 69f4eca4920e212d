pub mod Joins
pub mod Directions
pub mod ReadBack
pub mod Results
pub mod Text
pub mod Example
