pub mod Register
pub mod RoomLaws
pub mod RegisterLaws
