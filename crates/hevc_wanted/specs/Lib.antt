pub mod Shown
pub mod LastAgree
pub mod ShownLaws
pub mod LastLaws
pub mod WritableLaws
