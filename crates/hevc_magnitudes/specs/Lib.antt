pub mod Most
pub mod Escape
pub mod MagnitudeLaws
