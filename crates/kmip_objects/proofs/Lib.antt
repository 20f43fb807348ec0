pub mod ForCallers
mod ObjectLemmas
