pub mod LookLemmas
pub mod EndLemmas
pub mod BeginLemmas
