pub mod Public
mod OneLemmas
mod BehindLemmas
mod EarlyLemmas
mod TableLemmas
mod ApartLemmas
mod ListLemmas
mod ItemLemmas
mod DocumentLemmas
mod LoadedLemmas
mod AlikeLemmas
mod HeldLemmas
mod FrontLemmas
mod MeaningLemmas
mod GapLemmas
mod FilledLemmas
