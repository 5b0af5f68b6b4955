pub mod Entries
pub mod Few
pub mod ReadAgain
pub mod Promise
pub mod EntryCode
pub mod Examples
