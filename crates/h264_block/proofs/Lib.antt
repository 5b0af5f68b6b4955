pub mod BlockBounds
pub mod LevelLaws
pub mod BlockLaws
pub mod Exact
pub mod BlockNumbers
