pub mod TreeLaws
pub mod PacksLaws
pub mod PutBitsLaws
pub mod EntriesLaws
