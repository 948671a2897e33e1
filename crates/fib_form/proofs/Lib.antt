pub mod Public
mod FieldLemmas
mod PairLemmas
mod FibLemmas
mod WriteLemmas
mod FlagLemmas
mod FibRuleLemmas
