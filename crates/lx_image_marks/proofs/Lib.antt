pub mod Passes
pub mod Firsts
pub mod Fitting
pub mod Callable
