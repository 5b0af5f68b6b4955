pub mod Scale
pub mod Entries
pub mod ScaleLaws
pub mod EntryLaws
pub mod Exact
pub mod Cases
pub mod ScaleBounds
pub mod ScaleNumbers
