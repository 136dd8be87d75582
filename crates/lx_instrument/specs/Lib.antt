pub mod Made
pub mod Room
