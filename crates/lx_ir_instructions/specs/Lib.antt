pub mod Instructions
pub mod Grammar
pub mod Laws
