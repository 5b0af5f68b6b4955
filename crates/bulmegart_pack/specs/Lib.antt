pub mod Packed
pub mod Trays
