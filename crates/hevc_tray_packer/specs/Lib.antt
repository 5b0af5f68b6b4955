pub mod Rows
pub mod ListCode
pub mod ListLaws
pub mod TrayAgain
pub mod Promise
pub mod EntryCode
pub mod Examples
