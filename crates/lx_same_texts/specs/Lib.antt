pub mod Same
pub mod SameText
