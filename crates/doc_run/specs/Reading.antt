-- What comes of what reading a name came to.
use Rattle.std.specs.Prelude.{◌≡◌, ℕ, List}
use Rattle.doc_bits.specs.Rules.{Hold}
use Rattle.doc_model.specs.declared.document.Document.{Document}
use Rattle.plain_doc.specs.Sound.{IsSound}
use Rattle.doc_read.specs.Holds.{HoldsDocument, all_rules}
use Rattle.fast_save.specs.Session.{SessionView}
use Rattle.fast_save.specs.Started.{IsStarted}
use Rattle.run_stages.specs.declared.stage.Stage.{Stage}
use Rattle.run_stages.specs.declared.stage.Stage.TheVariants.{Go, Stop}
use Rattle.run_stages.specs.Outcomes.{Outcome}
use Rattle.run_stages.specs.Judged.{IsRuleRefusal}
use Rattle.run_stages.specs.Reading.{FollowsStage, IsWholeIn}
use Rattle.document_commands.specs.Tasks.{PairTask, out_of_two}
use Rattle.document_commands.specs.Replies.{EndsByReply, RepliesTwo}

-- a file that was read is refused, or the run ended before
abbrev pub IsStoppedBy : (name : List ℕ) → Stage (List ℕ) → Outcome → Type 0
IsStoppedBy name taken = FollowsStage taken (λ bytes. IsRuleRefusal (all_rules bytes) name)

-- a file breaks no rule and holds the document, which is sound
pub record IsOpenedDocument (document : Document) (file : List ℕ) : Type 0 where
  pub accepted : Hold (all_rules file)
  pub holds : HoldsDocument file document
  pub sound : IsSound document

-- what opening the document of what was read came to
abbrev pub IsOpenedStage : (name : List ℕ) → Stage (List ℕ) → Stage Document → Type 0
IsOpenedStage name taken (Go document) =
    IsWholeIn taken (IsOpenedDocument document)
IsOpenedStage name taken (Stop ending) = IsStoppedBy name taken ending

-- what beginning a session on a file that was read whole came to
abbrev pub IsBegunOn : (name file : List ℕ) → Stage SessionView → Type 0
IsBegunOn name file (Go session) = IsStarted file session
IsBegunOn name file (Stop ending) = IsRuleRefusal (all_rules file) name ending

-- what beginning a session on what was read came to
abbrev pub IsBegun : (name : List ℕ) → Stage (List ℕ) → Stage SessionView → Type 0
IsBegun name taken (Go session) = IsWholeIn taken (λ bytes. IsStarted bytes session)
IsBegun name taken (Stop ending) = IsStoppedBy name taken ending

-- something is asked of a document and of that of a file
pub record AnswersBeside (pair : PairTask) (first : Document) (file : List ℕ) (outcome : Outcome) : Type 0 where
  pub second : Document
  pub holds : HoldsDocument file second
  pub answers : EndsByReply (out_of_two pair) (RepliesTwo pair first second) outcome
