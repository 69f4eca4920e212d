pub mod DoneLaws
pub mod BitLaws
pub mod TurnLaws
