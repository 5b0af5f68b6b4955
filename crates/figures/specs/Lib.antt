pub mod Figures
pub mod Entries
pub mod EachLaws
pub mod CountLaws
pub mod Agree
pub mod CodeLaws
pub mod OutLaws
pub mod Cases
