pub mod StartLaws
pub mod WholeLaws
