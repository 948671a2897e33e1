pub mod Public
mod BlockLemmas
mod CountLemmas
mod HeldLemmas
mod StoreLemmas
mod WholeLemmas
mod WrittenLemmas
