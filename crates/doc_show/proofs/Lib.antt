pub mod Public
mod NumberedLemmas
mod LineLemmas
mod ParagraphLemmas
mod OneTextLemmas
mod WalkLemmas
mod StoryLemmas
mod CountLemmas
mod SettingLemmas
