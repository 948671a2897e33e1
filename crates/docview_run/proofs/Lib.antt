mod EndLemmas
mod PropertyLemmas
mod ViewLemmas
mod OneLemmas
mod CompleteLemmas
mod SafeLemmas
mod PictureLemmas
