pub mod Public
mod MeaningLemmas
mod RefusalLemmas
mod OpenLemmas
mod MendLemmas
mod LossLemmas
mod OneLemmas
mod PieceLemmas
mod AcceptedLemmas
mod NotedLemmas
mod ReadAsLemmas
mod UnitLemmas
