pub mod ActionParts
pub mod ClauseSteps
pub mod ListFinds
pub mod ListReads
pub mod Loans
pub mod Steps
