pub mod Readers
pub mod Laws
