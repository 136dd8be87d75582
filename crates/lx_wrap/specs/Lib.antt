pub mod Sides
pub mod Exported
