pub mod HeadAgree
pub mod HeadLaws
