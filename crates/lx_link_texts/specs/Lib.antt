pub mod Signatures
pub mod Placing
pub mod Faults
pub mod WellFormed
pub mod Laws
