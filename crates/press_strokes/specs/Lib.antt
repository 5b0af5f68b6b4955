pub mod Advice
pub mod FirstLaws
pub mod StrokeLaws
