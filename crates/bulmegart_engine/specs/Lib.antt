pub mod Exported
pub mod RestLaws
