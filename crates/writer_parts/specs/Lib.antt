pub mod Parts
pub mod ItemLaws
pub mod PartLaws
