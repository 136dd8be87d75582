pub mod Lines
pub mod Place
pub mod PlaceLaws
pub mod PlaceRows
