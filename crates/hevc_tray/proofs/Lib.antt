pub mod TrayLaws
pub mod TrayCode
pub mod ChecksCode
pub mod Words
