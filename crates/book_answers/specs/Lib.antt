pub mod Answers
pub mod AnswerLaws
pub mod Gave
pub mod CodeLaws
pub mod Cases
