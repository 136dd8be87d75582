pub mod Depths
pub mod FitLaws
pub mod Inside
pub mod Moduli
pub mod Kept
pub mod Steps
pub mod Fits
mod Passes
mod Begun
