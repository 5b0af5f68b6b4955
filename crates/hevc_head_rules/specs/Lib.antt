pub mod HeadOf
pub mod HeadRules
pub mod HeadParts
