pub mod AddLaws
