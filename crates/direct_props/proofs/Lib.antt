pub mod Public
mod AnswerLemmas
mod StretchLemmas
mod KeptLemmas
mod CharacterLemmas
mod LawLemmas
mod RightLemmas
mod FirstOf
mod RowLemmas
mod ExistLists
mod ExistDirect
