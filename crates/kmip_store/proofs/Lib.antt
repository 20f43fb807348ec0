pub mod ForCallers
pub mod PlaceLemmas
pub mod KeptLemmas
mod ChangingLemmas
pub mod SteppingLemmas
mod IndexingLemmas
pub mod LocatingLemmas
pub mod CallingLemmas
