pub mod RemovalLaws
pub mod State
