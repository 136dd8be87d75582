pub mod Images
pub mod Opened
pub mod Replays
pub mod Reports
pub mod Runs
pub mod Whys
