pub mod BlockLaws
pub mod Filled
pub mod GlobalLaws
pub mod HeadWords
pub mod ImportLaws
pub mod Onward
pub mod ParameterLaws
pub mod ParametersFound
pub mod RunLaws
mod Shorter
pub mod Starts
pub mod StatementLaws
pub mod StatementsFound
pub mod TypeNames
pub mod WordLaws
