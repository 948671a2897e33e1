pub mod Public
mod StoryLemmas
mod HexLemmas
mod TextLemmas
mod ScriptLemmas
mod SettingsLemmas
