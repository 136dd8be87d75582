pub mod Mentioned
pub mod Copying
pub mod Comparing
pub mod Firsts
pub mod OneBlock
pub mod Ordering
pub mod Erasing
pub mod Exact
