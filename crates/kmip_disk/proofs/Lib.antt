mod HistoryLemmas
mod MemoryLemmas
mod Moments
mod WholeLemmas
pub mod ForCallers
