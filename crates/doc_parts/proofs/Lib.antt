pub mod Public
mod TableLemmas
mod SectionLemmas
mod LevelLemmas
mod PrintLemmas
mod ReadBackLemmas
mod EntryLemmas
mod LawLemmas
mod ExistLemmas
mod CpLemmas
mod BookmarkPartLemmas
mod NumberingLemmas
mod BookmarkBackLemmas
mod BookmarkLawLemmas
