pub mod PlacesPuts
pub mod SubsPuts
pub mod BlockPuts
