pub mod WriteAgree
pub mod WriteLaws
pub mod Demand3
