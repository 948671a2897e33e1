pub mod Public
mod PrintLemmas
mod SayingLemmas
mod RangeLemmas
mod CourseLemmas
mod UnitLemmas
mod TextLemmas
mod NoteLemmas
mod PageLemmas
mod LawLemmas
mod CharacterLemmas
mod ControlLemmas
mod OnceLemmas
mod LabelLemmas
mod HeaderLemmas
mod LengthLemmas
mod ShortLemmas
