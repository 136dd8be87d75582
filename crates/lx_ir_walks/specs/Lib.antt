pub mod Dominators
pub mod Givers
pub mod Names
pub mod Numbers
pub mod Sources
pub mod Trees
pub mod Walks
