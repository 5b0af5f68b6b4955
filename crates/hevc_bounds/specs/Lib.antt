pub mod GroupLaws
pub mod Pieces
pub mod ResidualBounds
pub mod Among
pub mod EntryNumbers
