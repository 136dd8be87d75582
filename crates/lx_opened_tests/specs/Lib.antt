pub mod Callers
pub mod Coded
pub mod Opened
pub mod Programs
pub mod Typed
