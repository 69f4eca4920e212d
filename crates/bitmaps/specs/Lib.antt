pub mod Bits
pub mod BitLaws
pub mod Packed
pub mod PackedLaws
pub mod Put
pub mod PutLaws
