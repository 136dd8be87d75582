pub mod Untyped
