pub mod Shifts
pub mod ShiftsLaws
pub mod Placing
