pub mod OwnOutcomes
pub mod PuttingLemmas
pub mod FittingLemmas
pub mod ProbingLemmas
pub mod KeptLemmas
pub mod TwoObjectsLemmas
pub mod ServedLemmas
