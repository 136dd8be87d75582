pub mod Counts
pub mod Files
pub mod Reads
pub mod Puts
