mod PrintingLemmas
mod ReportLemmas
mod SimulatingLemmas
