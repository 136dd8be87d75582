pub mod Blocks
pub mod Laws
pub mod Telling
pub mod Text
pub mod Rows
