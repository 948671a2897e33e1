pub mod Public
mod ListingLemmas
mod OutcomeLemmas
mod JudgedLemmas
mod SoundLemmas
mod SaveLemmas
mod SummaryLemmas
mod JoinLemmas
mod ExportLemmas
mod ImportLemmas
mod ReplyLemmas
mod AnswerLemmas
