pub mod Public
mod OutcomeLemmas
mod JudgedLemmas
mod StageLemmas
mod SaidLemmas
