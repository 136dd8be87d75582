pub mod Acting
pub mod Arriving
pub mod Counting
pub mod Entering
mod Reversed
