pub mod BlockAgree
pub mod BlockLaws
