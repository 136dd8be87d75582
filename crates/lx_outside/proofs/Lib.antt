pub mod FileLemmas
mod Fronts
