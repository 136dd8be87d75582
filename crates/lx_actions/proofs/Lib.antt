pub mod Acting
pub mod Looking
pub mod Moved
pub mod Refusing
