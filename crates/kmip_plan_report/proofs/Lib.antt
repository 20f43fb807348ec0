mod StepLemmas
mod PrintingLemmas
pub mod RefusalLemmas
