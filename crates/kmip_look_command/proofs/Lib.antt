pub mod LineLemmas
pub mod LookLemmas
pub mod EndLemmas
