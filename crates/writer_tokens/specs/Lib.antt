pub mod Tokens
pub mod TokenLaws
