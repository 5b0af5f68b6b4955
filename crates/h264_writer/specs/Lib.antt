pub mod RefusalPuts
pub mod EntriesPuts
pub mod Demand3
