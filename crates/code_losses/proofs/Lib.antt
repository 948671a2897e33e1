pub mod Public
mod ResultLemmas
mod TallyLemmas
mod ListingLemmas
mod JoinLemmas
mod RunLemmas
mod NamedLemmas
mod OneLemmas
mod PrcLemmas
mod LawLemmas
