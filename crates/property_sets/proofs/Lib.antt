mod WalkLemmas
mod LawLemmas
