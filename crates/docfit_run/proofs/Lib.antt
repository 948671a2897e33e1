mod FitLemmas
mod PutLemmas
mod LawLemmas
mod OneLemmas
mod CompleteLemmas
mod AcceptedLemmas
