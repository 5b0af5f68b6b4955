pub mod Trays
pub mod Laws
