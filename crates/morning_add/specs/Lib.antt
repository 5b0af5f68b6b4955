pub mod Sums
pub mod Agree
pub mod SumLaws
pub mod CodeLaws
