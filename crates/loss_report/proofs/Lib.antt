pub mod Public
mod ReportLemmas
