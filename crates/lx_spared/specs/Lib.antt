pub mod Rooms
pub mod Stack
