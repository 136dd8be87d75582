pub mod Agreeing
pub mod Told
pub mod Each
pub mod Linking
pub mod Parts
pub mod Settled
