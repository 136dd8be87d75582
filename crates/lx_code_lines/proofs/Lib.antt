mod Askers
mod Asking
pub mod Counting
pub mod Labels
mod Meaning
pub mod Standing
