pub mod Context
pub mod Reading
pub mod Types
pub mod Grammar
pub mod Laws
pub mod Words
