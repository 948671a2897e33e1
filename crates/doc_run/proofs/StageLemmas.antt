-- What comes of opening what was read of a name is an ending of the stage that reads it, and has its cause.
use Rattle.std.proofs.Common.{◌≡◌, inl, inr, sym, subst, ℕ, List, Option, Result, arith}
use Rattle.std.specs.Prelude.{IfOk}
use Rattle.std.proofs.lemmas.Result.{IfOk-weaker}
use Rattle.doc_bits.specs.Number.{AreBytes}
use Rattle.doc_bits.specs.Rules.{Hold}
use Rattle.doc_outer.specs.Held.{Files}
use Rattle.doc_outer.specs.declared.shelf.Shelf.{Ghosts}
use Rattle.doc_model.specs.declared.document.Document.{Document}
use Rattle.plain_doc.specs.Sound.{IsSound}
use Rattle.doc_read.specs.Holds.{HoldsDocument, all_rules}
use Rattle.fast_save.specs.Session.{SessionView}
use Rattle.fast_save.specs.Started.{IsStarted}
use Rattle.run_stages.specs.declared.stage.Stage.{Stage}
use Rattle.run_stages.specs.declared.stage.Stage.TheVariants.{Go, Stop}
use Rattle.run_stages.specs.Outcomes.{Outcome, IsAfterReading}
use Rattle.run_stages.specs.Judged.{IsRuleRefusal, Judges}
use Rattle.run_stages.specs.Leaves.{IsCaused}
use Rattle.run_stages.specs.Stages.{ReadsFile, BreaksLengthRule}
use Rattle.run_stages.specs.Reading.{IsFileStage, stage_status, FollowsStage, IsWholeIn}
use Rattle.run_stages.proofs.Public.{said_inside, follow_reads, file_map, inside_caused}
use Rattle.run_stages.proofs.Public.{stopped_caused as caused_as_stopped}
use Rattle.document_commands.specs.Tasks.{PairTask, out_of_two}
use Rattle.document_commands.specs.declared.reply.Reply.{Reply}
use Rattle.document_commands.specs.Replies.{EndsByReply, RepliesTwo}
use Rattle.document_commands.specs.Judged.{IsJudgedFile}
use Rattle.document_commands.specs.Answers.{AnswersTwo}
use Rattle.document_commands.proofs.Public.{ends_inside}
use Rattle.doc_run.specs.Reading.{IsStoppedBy, IsOpenedDocument}
use Rattle.doc_run.specs.Reading.{IsOpenedStage, IsBegun, IsBegunOn, AnswersBeside}
use Rattle.doc_run.specs.Endings.{ReadsSecond}

judged_reached :
    (name bytes : List ℕ) (r : Stage Document) → AreBytes bytes → IsJudgedFile name bytes r → IsOpenedStage name (Go
    bytes) r
judged_reached name bytes (Go document) are j =
    (are, record { accepted = j.0; holds = j.1.0; sound = j.1.1 })
judged_reached name bytes (Stop ending) are j = (are, j)

-- what checking them came to
pub whole_reached :
    {E : Type 0} (name : List ℕ) (taken : Stage (List ℕ)) (bytes read : List ℕ) (result : Result (Stage Document) E) →
    taken ≡ Go bytes → read ≡ bytes → AreBytes read → IfOk result (λ r. IsJudgedFile name read r) →
    IfOk result (λ r. IsOpenedStage name taken r)
whole_reached name taken bytes read result whole same are judged =
    subst (λ t. IfOk result (λ r. IsOpenedStage name t r)) (sym whole)
    (subst (λ b. IfOk result (λ r. IsOpenedStage name (Go b) r)) same
    (IfOk-weaker result (λ r. IsJudgedFile name read r) (λ r. IsOpenedStage name (Go read) r)
    (λ r j. judged_reached name read r are j) judged))

begun_on : (name bytes : List ℕ) (b : Stage SessionView) → AreBytes bytes → IsBegunOn name bytes b → IsBegun name (Go bytes) b
begun_on name bytes (Go session) are j = (are, j)
begun_on name bytes (Stop ending) are j = (are, j)

-- what beginning a session on them came to
pub whole_begun :
    {E : Type 0} (name : List ℕ) (taken : Stage (List ℕ)) (bytes read : List ℕ) (result : Result (Stage SessionView) E) →
    taken ≡ Go bytes → read ≡ bytes → AreBytes read → IfOk result (λ b. IsBegunOn name read b) →
    IfOk result (λ b. IsBegun name taken b)
whole_begun name taken bytes read result whole same are begins =
    subst (λ t. IfOk result (λ b. IsBegun name t b)) (sym whole)
    (subst (λ f. IfOk result (λ b. IsBegun name (Go f) b)) same
    (IfOk-weaker result (λ b. IsBegunOn name read b) (λ b. IsBegun name (Go read) b)
    (λ b j. begun_on name read b are j) begins))

refused_follows :
    (name : List ℕ) (taken : Stage (List ℕ)) (next : List ℕ → Outcome → Type 0) (outcome : Outcome) →
    IsStoppedBy name taken outcome →
    FollowsStage taken (λ bytes. Judges (all_rules bytes) name (next bytes)) outcome
refused_follows name (Go bytes) next outcome stopped = (stopped.0, inl stopped.1)
refused_follows name (Stop ending) next outcome stopped = stopped

-- a file that is refused ends the run, whatever the next stage is
pub stopped_reads :
    (name : List ℕ) (held : Option Files) (taken : Stage (List ℕ)) (next : List ℕ → Outcome → Type 0) (outcome : Outcome) →
    IsFileStage name held (BreaksLengthRule name) taken → IsStoppedBy name taken outcome → ReadsFile name held all_rules
    next outcome
stopped_reads name held taken next outcome is stopped =
    follow_reads name held taken (BreaksLengthRule name) (λ bytes. Judges (all_rules bytes) name (next bytes)) outcome
    is (refused_follows name taken next outcome stopped)

-- what is so of the bytes that were read, and what is said of them next
whole_reads :
    {E : Type 0} (name : List ℕ) (held : Option Files) (bytes : List ℕ) (next : List ℕ → Outcome → Type 0)
    (result : Result Outcome E) → IsFileStage name held (BreaksLengthRule name) (Go bytes) → AreBytes bytes → Hold
    (all_rules bytes) →
    IfOk result (λ o. next bytes o) → IfOk result (λ o. ReadsFile name held all_rules next o)
whole_reads name held bytes next result is are accepted goes_on =
    IfOk-weaker result (λ o. next bytes o) (λ o. ReadsFile name held all_rules next o)
    (λ o h. follow_reads name held (Go bytes) (BreaksLengthRule name)
    (λ b. Judges (all_rules b) name (next b)) o is (are, inr (accepted, h))) goes_on

-- an opened document goes to the next stage
pub opened_reads :
    {E : Type 0} (name : List ℕ) (held : Option Files) (taken : Stage (List ℕ)) (document : Document)
    (next : List ℕ → Outcome → Type 0) (result : Result Outcome E) → IsFileStage name held (BreaksLengthRule name) taken
    →
    IsWholeIn taken (IsOpenedDocument document) →
    ((bytes : List ℕ) → HoldsDocument bytes document → IfOk result (λ o. next bytes o)) →
    IfOk result (λ o. ReadsFile name held all_rules next o)
opened_reads name held (Go bytes) document next result is opened goes_on =
    whole_reads name held bytes next result is opened.0 opened.1.accepted (goes_on bytes opened.1.holds)
opened_reads name held (Stop ending) document next result is opened goes_on = absurd opened

pub opened_sound :
    (taken : Stage (List ℕ)) (document : Document) → IsWholeIn taken (IsOpenedDocument document) → IsSound document
opened_sound (Go bytes) document opened = opened.1.sound
opened_sound (Stop ending) document opened = absurd opened

-- so does a session that was begun
pub begun_reads :
    {E : Type 0} (name : List ℕ) (held : Option Files) (taken : Stage (List ℕ)) (session : SessionView)
    (next : List ℕ → Outcome → Type 0) (result : Result Outcome E) → IsFileStage name held (BreaksLengthRule name) taken
    →
    IsWholeIn taken (λ bytes. IsStarted bytes session) →
    ((bytes : List ℕ) → IsStarted bytes session → IfOk result (λ o. next bytes o)) →
    IfOk result (λ o. ReadsFile name held all_rules next o)
begun_reads name held (Go bytes) session next result is started goes_on =
    whole_reads name held bytes next result is started.0 started.1.accepted (goes_on bytes started.1)
begun_reads name held (Stop ending) session next result is started goes_on = absurd started

-- the second file is read beside the first
pub second_reads :
    {E : Type 0} (pair : PairTask) (second : List ℕ) (held : Option Files) (first : Document) (one : List ℕ)
    (result : Result Outcome E) → HoldsDocument one first →
    IfOk result (λ o. ReadsFile second held all_rules (AnswersBeside pair first) o) →
    IfOk result (λ o. ReadsSecond pair second held one o)
second_reads pair second held first one result holds reads =
    IfOk-weaker result (λ o. ReadsFile second held all_rules (AnswersBeside pair first) o)
    (λ o. ReadsSecond pair second held one o)
    (λ o r. file_map second held all_rules (AnswersBeside pair first) (AnswersTwo pair one) o (λ bytes x. record {
      first = first;
      second = x.second;
      holds_first = holds;
      holds_second = x.holds;
      answers = x.answers;
    }) r) reads

pub beside_inside :
    (pair : PairTask) (first : Document) (file : List ℕ) (outcome : Outcome) →
    AnswersBeside pair first file outcome → IsAfterReading outcome.status
beside_inside pair first file outcome x =
    ends_inside (out_of_two pair) (RepliesTwo pair first x.second) outcome x.answers

-- what comes of a reply needs no cause
pub reply_caused :
    {S E : Type 0} (shelf : Ghosts S) (before now : S) (out : Option (List ℕ)) (such : Reply → Type 0)
    (result : Result Outcome E) → IfOk result (λ o. EndsByReply out such o) →
    IfOk result (λ o. IsCaused shelf before now o.status)
reply_caused shelf before now out such result ends =
    IfOk-weaker result (λ o. EndsByReply out such o) (λ o. IsCaused shelf before now o.status)
    (λ o e. inside_caused o.status (shelf.missed before) (shelf.missed now) (shelf.faults before) (shelf.faults now)
    (ends_inside out such o e)) ends

pub stopped_caused :
    {S : Type 0} (shelf : Ghosts S) (before now : S) (name : List ℕ) (taken : Stage (List ℕ)) (outcome : Outcome) →
    IsCaused shelf before now (stage_status taken) → IsStoppedBy name taken outcome →
    IsCaused shelf before now outcome.status
stopped_caused shelf before now name taken outcome cause stopped =
    caused_as_stopped shelf before now taken (λ bytes. IsRuleRefusal (all_rules bytes) name) outcome
    (λ bytes r. said_inside 1 _ outcome r.ends (inl (omega arith))) cause stopped
