pub mod Public
mod FlagLemmas
mod ChangeLemmas
mod LaidLemmas
mod EffectLemmas
mod ChainLemmas
mod FormatLemmas
