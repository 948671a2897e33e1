pub mod Public
mod ListLemmas
mod DataLemmas
mod EachLemmas
mod OffsetLemmas
mod MarkLemmas
mod RowLemmas
mod DefinedLemmas
mod TextLemmas
mod OneLemmas
mod NoneLemmas
