pub mod Sound
pub mod Gathered
pub mod Work
pub mod Laws
