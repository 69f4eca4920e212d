pub mod Lists
pub mod ListLaws
