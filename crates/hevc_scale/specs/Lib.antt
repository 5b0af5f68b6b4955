pub mod EntriesAgree
pub mod EntriesLaws
