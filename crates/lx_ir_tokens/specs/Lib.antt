pub mod Keywords
pub mod Lines
pub mod Names
pub mod Reading
pub mod Rows
pub mod Said
