pub mod Natives
pub mod Passes
pub mod Entries
pub mod Places
pub mod Counts
pub mod Sound
