pub mod KnownLemmas
pub mod AgreementLemmas
pub mod MomentLemmas
pub mod LookLemmas
