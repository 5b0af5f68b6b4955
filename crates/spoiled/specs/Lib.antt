pub mod Salvage
pub mod SalvageLaws
pub mod Gave
pub mod CodeLaws
pub mod Cases
