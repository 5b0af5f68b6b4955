pub mod Plain
pub mod Rice
pub mod PlainLaws
pub mod Cases
