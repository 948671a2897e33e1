mod TableLemmas
mod WholeLemmas
