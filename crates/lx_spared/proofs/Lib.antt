pub mod Stacked
pub mod SparedRooms
