pub mod Differing
pub mod Ordered
pub mod Placed
