pub mod Copies
pub mod Compared
pub mod Expected
pub mod Answers
pub mod Program
