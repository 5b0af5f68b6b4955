pub mod LevelsAgree
pub mod LevelLaws
pub mod KeptAgree
pub mod StoredLaws
