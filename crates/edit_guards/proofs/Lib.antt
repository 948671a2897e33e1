pub mod Public
mod PolicyLemmas
mod LawLemmas
