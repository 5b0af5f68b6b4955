pub mod Heat
pub mod HeatLaws
