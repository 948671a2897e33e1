pub mod Public
mod FewLemmas
mod SharedLemmas
