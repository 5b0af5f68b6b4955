pub mod Pairs
pub mod ScanLaws
pub mod CellLaws
pub mod PairLaws
pub mod Numbers
pub mod NumberLaws
pub mod SigWords
pub mod SigLaws
