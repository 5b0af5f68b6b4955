pub mod PlacesAgree
pub mod PlacesLaws
pub mod GreaterAgree
pub mod GreaterLaws
pub mod CoeffsAgree
pub mod CoeffsLaws
pub mod CarriedKeeps
