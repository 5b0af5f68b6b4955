pub mod Record
pub mod PlainCode
