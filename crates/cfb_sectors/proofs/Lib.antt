pub mod Public
mod ChainLemmas
mod StreamLemmas
mod JudgeLemmas
mod FatLemmas
mod MarkLemmas
mod EndLemmas
mod RingLemmas
mod ClaimLemmas
mod TableLemmas
mod OpeningLemmas
