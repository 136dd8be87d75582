pub mod Lines
pub mod Checks
pub mod Files
pub mod Inputs
pub mod Laws
