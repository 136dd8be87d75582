pub mod Runs
pub mod Begun
pub mod Report
pub mod Given
pub mod Slots
pub mod Laws
pub mod Rows
pub mod Lawful
