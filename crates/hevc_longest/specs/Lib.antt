pub mod Way
pub mod Longest
