pub mod Public
mod OutcomeLemmas
mod FewLemmas
mod CellLemmas
mod FreshLemmas
mod TextLemmas
mod CanMakeLemmas
mod KeepLemmas
mod WithoutLemmas
mod JudgeLemmas
mod RowLemmas
mod SumLemmas
mod FactLemmas
mod RunLemmas
mod FreshTextLemmas
