pub mod Code
pub mod Form
pub mod Imports
pub mod Jumps
pub mod Reach
pub mod Ready
pub mod Tables
pub mod Wrappers
