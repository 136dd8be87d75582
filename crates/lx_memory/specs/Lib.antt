pub mod Ranges
pub mod Shows
pub mod Runs
pub mod Tiles
pub mod Heaps
