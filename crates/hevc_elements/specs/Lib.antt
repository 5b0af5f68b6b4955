pub mod Agree
pub mod ShapeLaws
