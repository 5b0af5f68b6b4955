pub mod Reached
pub mod Depends
pub mod TrayReached
pub mod Instances
