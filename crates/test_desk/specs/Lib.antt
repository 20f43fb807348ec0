-- A run over a desk, a link and a disk in memory.

-- open this first: what such a run promises, with no premise
pub mod Sentences
