pub mod Steps
pub mod Operands
pub mod Grammar
pub mod Laws
