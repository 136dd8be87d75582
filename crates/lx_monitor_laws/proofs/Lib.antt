mod Counting
mod Crossings
mod Effects
mod Entering
mod Holding
mod MarkAsking
mod Performing
mod Tabled
