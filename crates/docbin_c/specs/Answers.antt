-- What a call answers, and what it hands over.
use Rattle.std.specs.Prelude.{◌≡◌, ◌≢◌, ◌⊎◌, ℕ, List, [], Some, length, unwrap_or, option_map}
use Rattle.doc_outer.specs.Held.{Files}
use Rattle.edit_guards.specs.Policies.{Policy}
use Rattle.run_stages.specs.Outcomes.{Outcome}
use Rattle.doc_run.specs.Endings.{IsEnding}
use Rattle.docfit_run.specs.Endings as fitting
use Rattle.docbin_c.specs.Rooms.{handed}
use Rattle.docbin_c.specs.declared.answer.DocbinAnswer.{DocbinAnswer}

-- a room that a caller lends, before a call and after it
pub record Room : Type 0 where
  pub before : List ℕ
  pub after : List ℕ

abbrev pub room : (before after : List ℕ) → Room
room before after = record { before = before; after = after }

-- no room
abbrev pub no_room : Room
no_room = room [] []

-- the bytes that an ending puts
abbrev pub put_bytes : Outcome → List ℕ
put_bytes outcome = unwrap_or (option_map (λ file. file.bytes) outcome.put) []

-- the answer has the status of an ending, and how long its text and its bytes are; the rooms have as much of both as
-- they can hold
pub record HandsOver (outcome : Outcome) (answer : DocbinAnswer) (text bytes : Room) : Type 0 where
  pub status : answer.status ≡ outcome.status
  pub text_len : answer.text_len ≡ length outcome.text
  pub bytes_len : answer.bytes_len ≡ length (put_bytes outcome)
  pub text_room : text.after ≡ handed outcome.text text.before
  pub bytes_room : bytes.after ≡ handed (put_bytes outcome) bytes.before

-- there was no memory, and the rooms are what they were
pub record LacksMemory (answer : DocbinAnswer) (text bytes : Room) : Type 0 where
  pub status : answer.status ≡ 6
  pub text_len : answer.text_len ≡ 0
  pub bytes_len : answer.bytes_len ≡ 0
  pub text_room : text.after ≡ text.before
  pub bytes_room : bytes.after ≡ bytes.before

-- a run over these words and files may end so, under the policies; reading never fails
pub record IsReached (policies : List Policy) (words : List (List ℕ)) (files : Files) (outcome : Outcome) : Type 0 where
  pub ending : IsEnding policies words (Some files) outcome
  pub read : outcome.status ≢ 4

-- a run of docfit over these words and files may end so; reading never fails
pub record IsFitReached (words : List (List ℕ)) (files : Files) (outcome : Outcome) : Type 0 where
  pub ending : fitting.IsEnding words (Some files) outcome
  pub read : outcome.status ≢ 4

-- what is handed over is such an ending
pub record HandsEnding (IsSo : Outcome → Type 0) (answer : DocbinAnswer) (text bytes : Room) : Type 0 where
  pub outcome : Outcome
  pub reached : IsSo outcome
  pub over : HandsOver outcome answer text bytes

-- a call answers so: one of the program docbin, and that of docfit
abbrev pub Answers : List Policy → List (List ℕ) → Files → DocbinAnswer → (text bytes : Room) → Type 0
Answers policies words files answer text bytes =
    LacksMemory answer text bytes ⊎ HandsEnding (IsReached policies words files) answer text bytes

abbrev pub AnswersFit : List (List ℕ) → Files → DocbinAnswer → (text bytes : Room) → Type 0
AnswersFit words files answer text bytes =
    LacksMemory answer text bytes ⊎ HandsEnding (IsFitReached words files) answer text bytes
