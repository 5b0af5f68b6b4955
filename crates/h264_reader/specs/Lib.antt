pub mod BlockCode
pub mod EntriesAgree
pub mod EntriesLaws
