mod Spaced
pub mod ItemLists
pub mod Crossing
