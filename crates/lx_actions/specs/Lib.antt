pub mod Deeds
pub mod Laws
pub mod Performs
pub mod Rooms
pub mod Shown
