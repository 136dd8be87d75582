pub mod Filled
pub mod Found
pub mod Sized
pub mod Crossing
pub mod LineSteps
pub mod FormSteps
pub mod Made
pub mod Naming
