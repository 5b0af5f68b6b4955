pub mod Rows
pub mod Tray
pub mod Seen
pub mod AbleLaws
