pub mod Public
mod CharacterLemmas
mod TableLemmas
