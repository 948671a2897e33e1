pub mod Public
mod EarlyLemmas
mod VersionLemmas
