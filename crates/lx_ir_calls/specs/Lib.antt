pub mod Arguments
pub mod Writes
pub mod ImageLines
pub mod Intrinsics
pub mod Calls
pub mod Grammar
pub mod Laws
