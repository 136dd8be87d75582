pub mod History
pub mod Serving
pub mod Views
pub mod Telling
pub mod Calls
pub mod Tickets
pub mod Seats
