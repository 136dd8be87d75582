pub mod Generated
pub mod Interface
pub mod Kernel
pub mod Lines
