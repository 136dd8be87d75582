mod Behind
pub mod Fits
mod Forms
pub mod InitLists
pub mod Layouts
pub mod TypeLists
pub mod Crossing
pub mod Equality
pub mod Passes
pub mod DigitNames
pub mod DistinctNames
pub mod ImportsFirst
pub mod LawfulGlobals
pub mod Refused
pub mod TypesWithin
