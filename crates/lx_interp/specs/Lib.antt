pub mod Runner
pub mod Places
pub mod Lacks
pub mod LackLaws
