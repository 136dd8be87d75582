mod Crossing
mod Dealing
mod Gathering
pub mod Journals
mod Monitoring
pub mod Runs
pub mod Schedules
mod Together
mod Turning
pub mod WorkerSchedules
mod Worlds
