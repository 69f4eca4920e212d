pub mod Rule
pub mod RuleLaws
