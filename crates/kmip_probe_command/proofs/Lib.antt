mod PieceLemmas
pub mod ToldLemmas
pub mod EndLemmas
pub mod MidwayLemmas
pub mod StageLemmas
pub mod TellingLemmas
