pub mod Contexts
pub mod Numbers
pub mod Entries
pub mod NumberLaws
pub mod EntryLaws
