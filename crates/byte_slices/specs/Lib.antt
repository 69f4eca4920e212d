pub mod Decimal
pub mod DecimalLaws
pub mod Laid
pub mod Put
