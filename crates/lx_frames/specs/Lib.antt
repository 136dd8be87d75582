pub mod Frames
pub mod Shadow
pub mod Stack
