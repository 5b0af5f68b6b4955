pub mod ExtentLaws
pub mod EntryExtents
pub mod Instance
