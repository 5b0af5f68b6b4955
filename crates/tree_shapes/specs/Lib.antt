pub mod Plain
pub mod ShapeLaws
