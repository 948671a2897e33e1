pub mod Public
mod GapLemmas
mod RangeLemmas
mod PageLemmas
mod FilledLemmas
