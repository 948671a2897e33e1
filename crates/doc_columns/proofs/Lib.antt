pub mod Public
mod ItemsOfLemmas
mod ChangesLemmas
mod CollectLemmas
mod JudgeLemmas
mod RightLemmas
mod EqualityLemmas
mod WalkLemmas
mod EndLemmas
mod SeenLemmas
mod WindowLemmas
mod SpecialLemmas
