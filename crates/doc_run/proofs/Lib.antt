pub mod Public
mod PositionLemmas
mod CommandLemmas
mod AlikeLemmas
mod StageLemmas
mod PutLemmas
mod SessionLemmas
mod EditLemmas
mod GenerateLemmas
mod OneLemmas
mod CompleteLemmas
