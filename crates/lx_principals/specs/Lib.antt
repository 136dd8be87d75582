pub mod Aliases
pub mod Instances
pub mod Kept
