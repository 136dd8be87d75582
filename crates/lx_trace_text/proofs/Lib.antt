mod Nearest
mod Keeping
mod Lines
