pub mod Tokens
pub mod Reading
pub mod Names
pub mod Operators
pub mod Exprs
pub mod Grammar
pub mod Laws
