pub mod Drafts
pub mod ModuleLaws
pub mod Names
pub mod Readings
