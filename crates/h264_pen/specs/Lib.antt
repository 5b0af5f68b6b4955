pub mod MagnitudePuts
pub mod PlacePuts
pub mod LevelPuts
