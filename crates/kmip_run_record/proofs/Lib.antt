pub mod StageLemmas
