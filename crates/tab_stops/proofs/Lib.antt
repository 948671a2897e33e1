pub mod Public
mod ListLemmas
mod OneLemmas
mod PrcLemmas
mod SheetLemmas
mod PageLemmas
