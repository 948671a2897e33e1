pub mod Public
mod RefuserLemmas
mod EndLemmas
mod LedgerLemmas
mod GeneratedFileLemmas
mod GeneratedLemmas
mod GeneratedRunLemmas
mod GrownLemmas
mod StepLemmas
mod FastLemmas
mod RunLemmas
mod GeneratedStartLemmas
mod GeneratedImageLemmas
mod SaveLemmas
mod MarkCountLemmas
