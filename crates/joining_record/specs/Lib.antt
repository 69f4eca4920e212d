pub mod Records
pub mod Table
pub mod Laws
