pub mod EntriesPuts
pub mod Demand3
