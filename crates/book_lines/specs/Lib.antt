pub mod Lines
pub mod Form
pub mod Steps
pub mod LineLaws
pub mod FormLaws
pub mod CodeLaws
