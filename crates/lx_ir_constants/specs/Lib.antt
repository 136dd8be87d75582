pub mod Constants
pub mod Inits
pub mod Grammar
pub mod Misplaced
pub mod Laws
pub mod InitGrammar
