pub mod Accepting
mod Alone
mod Callers
pub mod Coded
pub mod Programs
pub mod Typed
pub mod Worlds
