pub mod Numbering
pub mod Registers
