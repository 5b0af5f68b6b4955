pub mod Spelled
pub mod SpelledLaws
pub mod Answered
pub mod Instance
