mod ChainLemmas
mod PlaceLemmas
pub mod TargetLemmas
mod OptionLemmas
pub mod TableLemmas
pub mod NameLemmas
pub mod WordLemmas
pub mod FieldLemmas
pub mod PlanLemmas
pub mod ProlongingLemmas
