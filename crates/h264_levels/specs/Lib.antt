pub mod MagnitudeLaws
pub mod LevelCode
