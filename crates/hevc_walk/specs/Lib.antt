pub mod WalkLaws
pub mod WalkCode
