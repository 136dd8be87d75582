pub mod Offsets
pub mod Laws
pub mod Shapes
pub mod DistanceLaws
pub mod Known
