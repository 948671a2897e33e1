pub mod Public
mod NumberLemmas
mod RunCountLemmas
mod EditRunLemmas
mod FullSizeLemmas
mod BoldLemmas
mod GeneratedTextLemmas
mod GeneratedRightLemmas
mod GeneratedTableLemmas
mod GeneratedEditLemmas
