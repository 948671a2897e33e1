pub mod Public
mod CloseLemmas
mod KnownLemmas
mod BracketLemmas
mod PutLemmas
mod UnitLemmas
mod PathLemmas
mod SizeLemmas
