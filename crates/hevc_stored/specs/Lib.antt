pub mod StoredAgree
pub mod SignLaws
