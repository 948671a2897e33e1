pub mod Public
mod PrcLemmas
mod StyleLemmas
mod SheetLemmas
mod RuleLemmas
mod OneLemmas
