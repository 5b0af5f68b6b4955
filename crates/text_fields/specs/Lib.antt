pub mod Spelled
pub mod SpelledLaws
pub mod OctetsLaws
pub mod WrittenLaws
pub mod Fields
pub mod FieldLaws
