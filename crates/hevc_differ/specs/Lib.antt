pub mod Judgement
