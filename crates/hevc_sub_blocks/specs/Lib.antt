pub mod SubsAgree
pub mod SmallLaws
pub mod SubsLaws
pub mod SubCode
