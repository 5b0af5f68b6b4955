pub mod Tables
pub mod Table
pub mod Decisions
pub mod Bounds
pub mod Rule
