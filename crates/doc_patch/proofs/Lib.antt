pub mod Public
mod FirstLemmas
mod RangeLemmas
mod MakeLemmas
mod MakingLemmas
mod ModifyLemmas
mod PlaceLemmas
