pub mod Aside
pub mod Bodies
pub mod Places
pub mod TokensSay
pub mod Windows
pub mod Tabled
