pub mod Answer
pub mod Command
pub mod Matched
pub mod Rows
pub mod Told
pub mod Tree
pub mod Words
