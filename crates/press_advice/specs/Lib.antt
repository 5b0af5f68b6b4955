pub mod Says
pub mod AdviceLaws
