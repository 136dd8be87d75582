pub mod Chains
pub mod ExprFinds
pub mod ExprReads
pub mod Numbered
pub mod Parts
