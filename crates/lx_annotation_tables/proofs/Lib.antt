pub mod Texts
pub mod Reached
pub mod Told
pub mod CountTables
pub mod ImageTables
pub mod Rising
