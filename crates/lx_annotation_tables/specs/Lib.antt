pub mod Counted
pub mod Entries
pub mod Laws
pub mod Images
