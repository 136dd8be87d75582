pub mod Again
pub mod Fault
pub mod First
pub mod Grammar
pub mod Laws
pub mod Reading
pub mod Says
pub mod Tables
