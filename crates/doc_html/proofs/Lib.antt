pub mod Public
mod WriteLemmas
mod CellLemmas
mod LabelLemmas
mod TitleLemmas
mod HeadLemmas
mod TextLemmas
mod NoteLemmas
mod PageLemmas
mod RunLemmas
