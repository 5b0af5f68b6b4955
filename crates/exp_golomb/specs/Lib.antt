pub mod WholeLaws
pub mod PrefixLaws
