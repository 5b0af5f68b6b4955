pub mod ClearLaws
pub mod SizeLaws
