pub mod StandLaws
pub mod WalkLaws
pub mod IntoCode
