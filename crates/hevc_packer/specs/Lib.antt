pub mod Entries
pub mod ReadAgain
pub mod Promise
pub mod EntryCode
pub mod Tray
pub mod TrayLaws
pub mod Examples
