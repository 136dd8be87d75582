pub mod LineLemmas
pub mod ThreadLemmas
pub mod TableLemmas
pub mod IndexLemmas
pub mod RunLemmas
pub mod MakeLemmas
