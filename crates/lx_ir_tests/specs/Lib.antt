pub mod Reprinted
