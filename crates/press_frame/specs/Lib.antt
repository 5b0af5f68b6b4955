pub mod Pressed
pub mod PressedLaws
pub mod FrameLong
pub mod Judged
pub mod Said
pub mod PressCode
