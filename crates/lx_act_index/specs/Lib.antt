pub mod Lines
pub mod Threads
pub mod Table
pub mod Runs
pub mod Index
pub mod Standing
pub mod Rows
