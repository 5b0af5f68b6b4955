pub mod IntoAgree
pub mod IntoLaws
