pub mod Asked
pub mod Run
pub mod Tells
pub mod Trace
pub mod TraceLaws
pub mod Traced
