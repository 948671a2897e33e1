pub mod Public
mod BlockLemmas
mod DigitLemmas
mod GatherLemmas
mod ParagraphLemmas
mod ShownLemmas
