-- How a run ends that saves the document which is the JSON of a file.
use Rattle.std.specs.Prelude.{◌≡◌, List, ℕ, Option, Some}
use Rattle.doc_outer.specs.Held.{Files}
use Rattle.document_commands.specs.Imports.{Imports, overlong_json_line}
use Rattle.run_stages.specs.Outcomes.{Outcome, says}
use Rattle.document_commands.specs.Replies.{EndsByReply}
use Rattle.run_stages.specs.Stages.{ReadsNamedFile}

-- JSON that is overlong
abbrev pub IsOverlongJson : Outcome → Type 0
IsOverlongJson outcome = outcome ≡ says 7 overlong_json_line

-- the file is read, no rule of files is checked on it, and its document is saved under a name
abbrev pub ReadsJson : (file out : List ℕ) → Option Files → Outcome → Type 0
ReadsJson file out held = ReadsNamedFile file held IsOverlongJson (λ bytes. EndsByReply (Some out) (Imports bytes))
