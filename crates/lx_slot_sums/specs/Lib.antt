pub mod Sums
pub mod Classes
pub mod Fields
pub mod Known
pub mod Rows
pub mod Spreads
pub mod Within
