pub mod ForCallers
mod ReadingLemmas
mod OneLineLemmas
mod DocumentLemmas
mod LineLemmas
pub mod EndingLemmas
pub mod PrinterLemmas
