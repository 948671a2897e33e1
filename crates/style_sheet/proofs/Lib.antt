pub mod Public
mod ChainLemmas
mod OneChainLemmas
mod ChangeLemmas
mod ReadLemmas
mod WordLemmas
mod LengthLemmas
mod SlotLemmas
mod StdLemmas
mod StyleBackLemmas
mod SheetBackLemmas
mod UniqueLemmas
mod BaseLemmas
mod MadeLists
mod StableStyles
mod ExistStyles
mod ExistSheet
