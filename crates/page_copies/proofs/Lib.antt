pub mod Public
mod PlaceLemmas
mod CopyLemmas
mod AnswerLemmas
mod NameLemmas
mod PageLemmas
mod ListLemmas
mod AfterLemmas
mod OneLemmas
