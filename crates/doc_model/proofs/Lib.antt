pub mod Public
mod FormedLemmas
mod StreamLemmas
mod WithBytesLemmas
mod MarkLemmas
mod BlankLemmas
mod StretchLemmas
mod CutLemmas
mod SettingsLemmas
mod CollectedLemmas
mod TextListLemmas
mod BookmarkRuleLemmas
