pub mod CourseLemmas
mod ProgressLineLemmas
mod TrueTextLemmas
mod EndingLemmas
