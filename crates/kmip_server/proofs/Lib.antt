pub mod ObjectLemmas
pub mod StepLaws
pub mod ChangeLemmas
pub mod AgainLaws
pub mod MessageLemmas
pub mod SearchLaws
mod BatchLemmas
mod PromiseLemmas
