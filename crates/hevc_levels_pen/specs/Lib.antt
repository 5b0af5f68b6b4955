pub mod GreaterPuts
pub mod LevelsPuts
pub mod SignsPuts
