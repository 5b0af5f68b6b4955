pub mod ShapeLaws
pub mod PlainLaws
pub mod PrefixCounts
