pub mod Edges
pub mod Laws
pub mod Rows
pub mod Shown
