pub mod Pack
pub mod PutBits
pub mod FollowLaws
pub mod PayloadLaws
pub mod Packs
pub mod Entries
