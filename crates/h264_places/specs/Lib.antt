pub mod PlaceCode
