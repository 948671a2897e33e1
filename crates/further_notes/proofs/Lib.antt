pub mod Public
mod MeantLemmas
mod KindLemmas
mod FileLemmas
mod FormLemmas
mod SourceLemmas
mod SpliceLemmas
mod ReferLemmas
mod StoryLemmas
