pub mod Numbered
mod Runs
mod Maximal
mod FirstLine
mod Modules
mod Tables
mod Exports
