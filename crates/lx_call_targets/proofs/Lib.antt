pub mod Pairs
pub mod Listings
pub mod Told
pub mod Sharing
