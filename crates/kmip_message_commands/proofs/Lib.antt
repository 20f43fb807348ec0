pub mod BytewiseLaws
mod RespondingLemmas
pub mod FinishingLemmas
mod LineLemmas
mod StreamingLemmas
mod AdvancingLemmas
mod MessagesLemmas
mod DecodingLemmas
