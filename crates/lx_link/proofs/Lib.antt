pub mod Passes
pub mod Modules
pub mod Fitting
pub mod Spoken
