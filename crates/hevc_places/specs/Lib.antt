pub mod Packing
pub mod PackingLaws
pub mod PlacesAgree
pub mod PlacesLaws
