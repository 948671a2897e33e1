pub mod Public
mod CodeLemmas
mod OperandLemmas
mod SprmLemmas
mod FaultLemmas
