pub mod Public
mod AnchorLemmas
mod CharacterLemmas
mod OpenLemmas
mod StepLemmas
mod UrlLemmas
mod WaitingLemmas
mod WordLemmas
