-- What docview shows of a file, and how it is handed over.
use Rattle.std.specs.Prelude.{◌≡◌, ◌≢◌, ◌⊎◌, ℕ, List, length, Some}
use Rattle.doc_outer.specs.Held.{Files}
use Rattle.run_stages.specs.Outcomes.{Outcome}
use Rattle.docview_run.specs.Endings.{IsEnding}
use Rattle.docbin_c.specs.Answers.{LacksMemory, Room, no_room}
use Rattle.docbin_c.specs.Rooms.{handed}
use Rattle.docbin_c.specs.declared.answer.DocbinAnswer.{DocbinAnswer}

-- what a sink has taken, and how often it failed
pub record Grown : Type 0 where
  pub written : List ℕ
  pub faults : ℕ

-- a status, and a page or why there is none
pub record ShownText : Type 0 where
  pub status : ℕ
  pub text : List ℕ

-- a run of docview over these words and files may end so: with its status, and at status 0 with its page; nothing is
-- said of the reason for another one. Reading never fails
pub record IsShown (words : List (List ℕ)) (files : Files) (shown : ShownText) : Type 0 where
  pub outcome : Outcome
  pub ending : IsEnding words (Some files) outcome
  pub status : shown.status ≡ outcome.status
  pub page : outcome.status ≡ 0 → shown.text ≡ outcome.text
  pub read : outcome.status ≢ 4

-- the answer has its status, and the room as much of its text as it can hold
pub record HandsText (shown : ShownText) (answer : DocbinAnswer) (text : Room) : Type 0 where
  pub status : answer.status ≡ shown.status
  pub text_len : answer.text_len ≡ length shown.text
  pub bytes_len : answer.bytes_len ≡ 0
  pub text_room : text.after ≡ handed shown.text text.before

-- what is handed over is so shown
pub record HandsShown (words : List (List ℕ)) (files : Files) (answer : DocbinAnswer) (text : Room) : Type 0 where
  pub shown : ShownText
  pub is : IsShown words files shown
  pub over : HandsText shown answer text

-- a call answers so
abbrev pub AnswersView : List (List ℕ) → Files → DocbinAnswer → (text : Room) → Type 0
AnswersView words files answer text = LacksMemory answer text no_room ⊎ HandsShown words files answer text
