pub mod Public
mod SpreadLemmas
mod CutLemmas
mod RunsLemmas
mod ChangeLemmas
