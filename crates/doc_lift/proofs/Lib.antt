pub mod Public
mod SepxLemmas
mod SkipLemmas
mod LiftLemmas
mod HeldLemmas
mod FillLemmas
mod StreamLemmas
mod ReadLemmas
mod RuleLemmas
mod BinLemmas
