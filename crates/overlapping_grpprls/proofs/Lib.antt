mod WalkLemmas
mod KeepingLemmas
