pub mod DependsLaws
pub mod TrayDepends
pub mod InstancesLaws
pub mod TrayInstance
