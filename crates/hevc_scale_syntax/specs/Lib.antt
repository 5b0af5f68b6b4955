pub mod Agree
pub mod CodeLaws
