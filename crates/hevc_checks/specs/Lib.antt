pub mod ChecksAgree
pub mod ChecksLaws
