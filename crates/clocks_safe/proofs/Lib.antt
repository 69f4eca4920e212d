pub mod TestLaws
pub mod SettleLaws
