pub mod Lists
pub mod Actions
pub mod Signatures
pub mod Clauses
pub mod ItemReading
pub mod Grammar
pub mod Laws
