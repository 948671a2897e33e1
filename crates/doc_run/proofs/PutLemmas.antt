-- What a run puts, and where; and that its status is none of those for what fails later.
use Rattle.std.proofs.Common.{◌≡◌, ◌≢◌, ◌∙◌, inl, inr, ap, sym, subst, refl, ℕ, ◌<◌, List, Option, Some, arith}
use Rattle.std.proofs.lemmas.Option.{none-some}
use Rattle.doc_bits.specs.Rules.{Rules}
use Rattle.doc_bits.specs.Places.{Place}
use Rattle.doc_outer.specs.Held.{Files, StaysAt, OthersStay}
use Rattle.doc_read.specs.Holds.{all_rules}
use Rattle.edit_guards.specs.Policies.{Policy}
use Rattle.script_run.specs.States.{starting_state}
use Rattle.document_commands.specs.declared.reply.Reply.{Reply}
use Rattle.run_stages.specs.Lines.{shelf_fault_line}
use Rattle.run_stages.specs.Outcomes.{Outcome, PutFile, says}
use Rattle.document_commands.specs.Tasks.{out_of, out_of_two}
use Rattle.document_commands.specs.Replies.{EndsByReply, Replies, RepliesTwo}
use Rattle.run_stages.specs.Judged.{Judges}
use Rattle.document_commands.specs.Judged.{rules_by_place}
use Rattle.document_commands.specs.Answers.{ListsStreams, AnswersFile, AnswersTwo}
use Rattle.run_stages.proofs.Public.{status_said, after_reading_inside}
use Rattle.document_commands.proofs.Public.{ends_put, ends_inside}
use Rattle.document_commands.specs.Imports.{Imports}
use Rattle.doc_run.specs.Commands.{Request, streams, on_document, on_two, edit, from_json, generate, put_under}
use Rattle.doc_run.specs.Commands.{IsCommand, PutsUnder}
use Rattle.run_stages.specs.Stages.{BreaksLengthRule, ReadsNamedFile, ReadsFile}
use Rattle.doc_run.specs.Generates.{Generates}
use Rattle.doc_run.specs.Edits.{IsOverlongScript, EditsBy, EditsFile}
use Rattle.doc_run.specs.Imports.{IsOverlongJson}
use Rattle.doc_run.specs.Endings.{ReadsSecond, EndsCommand, IsEnding}

-- none of the statuses of a failing sink and of want of memory
abbrev pub IsCalm : ℕ → Type 0
IsCalm status = (status ≢ 5) × (status ≢ 6)

-- what is put has the command's name, and then the status is 0
pub record IsFine (out : Option (List ℕ)) (outcome : Outcome) : Type 0 where
  pub puts : (file : PutFile) → outcome.put ≡ Some file → (out ≡ Some file.name) × (outcome.status ≡ 0)
  pub calm : IsCalm outcome.status

calm_below : (status : ℕ) → status < 5 → IsCalm status
calm_below status small = (λ s. omega (arith, small, s), λ s. omega (arith, small, s))

-- what prints alone puts nothing
said_fine :
    (out : Option (List ℕ)) (status : ℕ) (text : List ℕ) (outcome : Outcome) → outcome ≡ says status text →
    IsCalm status → IsFine out outcome
said_fine out status text outcome e calm = record {
  puts = λ file put. absurd (none-some file (sym (ap (λ (o : Outcome). o.put) e) ∙ put));
  calm = subst (λ n. IsCalm n) (sym (status_said status text outcome e)) calm;
}

reply_fine :
    (out : Option (List ℕ)) (such : Reply → Type 0) (outcome : Outcome) → EndsByReply out such outcome → IsFine out
    outcome
reply_fine out such outcome ends = record {
  puts = λ file put. ends_put out such outcome file ends put;
  calm = after_reading_inside outcome.status (ends_inside out such outcome ends);
}

judges_fine :
    (out : Option (List ℕ)) (rules : Rules Place) (name : List ℕ) (next : Outcome → Type 0) (outcome : Outcome) →
    (next outcome → IsFine out outcome) → Judges rules name next outcome → IsFine out outcome
judges_fine out rules name next outcome step (inl x) = said_fine out 1 _ outcome x.ends (calm_below 1 (omega arith))
judges_fine out rules name next outcome step (inr x) = step x.1

reads_fine :
    (out : Option (List ℕ)) (name : List ℕ) (held : Option Files) (overlong : Outcome → Type 0)
    (next : List ℕ → Outcome → Type 0) (outcome : Outcome) → (overlong outcome → IsFine out outcome) →
    ((bytes : List ℕ) → next bytes outcome → IsFine out outcome) → ReadsNamedFile name held overlong next outcome →
    IsFine out outcome
reads_fine out name held overlong next outcome long step (inl x) =
    said_fine out 3 _ outcome x.ends (calm_below 3 (omega arith))
reads_fine out name held overlong next outcome long step (inr (inl x)) =
    said_fine out 4 _ outcome x (calm_below 4 (omega arith))
reads_fine out name held overlong next outcome long step (inr (inr (inl x))) = long x.ends
reads_fine out name held overlong next outcome long step (inr (inr (inr x))) = step x.bytes x.goes_on

file_fine :
    (out : Option (List ℕ)) (name : List ℕ) (held : Option Files) (rules : List ℕ → Rules Place)
    (next : List ℕ → Outcome → Type 0) (outcome : Outcome) →
    ((bytes : List ℕ) → next bytes outcome → IsFine out outcome) → ReadsFile name held rules next outcome →
    IsFine out outcome
file_fine out name held rules next outcome step reads =
    reads_fine out name held (BreaksLengthRule name) (λ bytes. Judges (rules bytes) name (next bytes)) outcome
    (λ e. said_fine out 1 _ outcome e (calm_below 1 (omega arith)))
    (λ bytes j. judges_fine out (rules bytes) name (next bytes) outcome (step bytes) j) reads

-- a command puts under its own name
ends_fine :
    (policies : List Policy) (command : Request) (held : Option Files) (outcome : Outcome) →
    EndsCommand policies command held outcome → IsFine (put_under command) outcome
ends_fine policies (streams file) held outcome e =
    let out = put_under (streams file) in
    file_fine out file held rules_by_place ListsStreams outcome
    (λ bytes x. said_fine out 0 x.text outcome x.ends (calm_below 0 (omega arith))) e
ends_fine policies (on_document task file) held outcome e =
    file_fine (out_of task) file held all_rules (AnswersFile task file) outcome
    (λ bytes x. reply_fine (out_of task) (Replies task file x.document) outcome x.answers) e
ends_fine policies (on_two pair first second) held outcome e =
    let out = out_of_two pair in
    file_fine out first held all_rules (ReadsSecond pair second held) outcome
    (λ one reads. file_fine out second held all_rules (AnswersTwo pair one) outcome
    (λ other x. reply_fine out (RepliesTwo pair x.first x.second) outcome x.answers) reads) e
ends_fine policies (edit file script out) held outcome e =
    file_fine (Some out) file held all_rules (EditsFile policies script out held) outcome
    (λ bytes x. let by = EditsBy (starting_state x.session policies) in
    reads_fine (Some out) script held IsOverlongScript (λ b. EndsByReply (Some out) (by b)) outcome
    (λ long. said_fine (Some out) 7 _ outcome long (λ s. omega (arith, s), λ s. omega (arith, s)))
    (λ b y. reply_fine (Some out) (by b) outcome y) x.reads) e
ends_fine policies (from_json file out) held outcome e =
    reads_fine (Some out) file held IsOverlongJson (λ b. EndsByReply (Some out) (Imports b)) outcome
    (λ long. said_fine (Some out) 7 _ outcome long (λ s. omega (arith, s), λ s. omega (arith, s)))
    (λ b y. reply_fine (Some out) (Imports b) outcome y) e
ends_fine policies (generate seed out) held outcome (inl fault) =
    said_fine (Some out) 4 _ outcome fault (calm_below 4 (omega arith))
ends_fine policies (generate seed out) held outcome (inr made) = reply_fine (Some out) (Generates seed) outcome made

-- a run has no status of what fails later
pub ending_calm :
    (policies : List Policy) (words : List (List ℕ)) (held : Option Files) (outcome : Outcome) →
    IsEnding policies words held outcome → IsCalm outcome.status
ending_calm policies words held outcome (inl usage) =
    subst (λ n. IsCalm n) (sym (status_said 2 _ outcome usage.ends)) (calm_below 2 (omega arith))
ending_calm policies words held outcome (inr served) =
    let fine = ends_fine policies served.command held outcome served.ends in fine.calm

-- a run puts under a name of its command
pub ending_puts :
    (policies : List Policy) (words : List (List ℕ)) (held : Option Files) (outcome : Outcome) (file : PutFile) →
    IsEnding policies words held outcome → outcome.put ≡ Some file →
    (command : Request) × ((IsCommand words command × PutsUnder command file.name) × (outcome.status ≡ 0))
ending_puts policies words held outcome file (inl usage) put =
    absurd (none-some file (sym (ap (λ (o : Outcome). o.put) usage.ends) ∙ put))
ending_puts policies words held outcome file (inr served) put =
    let fine = ends_fine policies served.command held outcome served.ends in
    let puts = fine.puts file put in
    (served.command, ((served.asked, puts.0), puts.1))

-- a run that puts may end by a failing shelf
faulted :
    (policies : List Policy) (command : Request) (held : Option Files) →
    EndsCommand policies command held (says 4 shelf_fault_line)
faulted policies (streams file) held = inr (inl refl)
faulted policies (on_document task file) held = inr (inl refl)
faulted policies (on_two pair first second) held = inr (inl refl)
faulted policies (edit file script out) held = inr (inl refl)
faulted policies (from_json file out) held = inr (inl refl)
faulted policies (generate seed out) held = inl refl

pub ending_faulted :
    (policies : List Policy) (words : List (List ℕ)) (held : Option Files) (outcome : Outcome) (file : PutFile)
    (failed : Outcome) → IsEnding policies words held outcome → outcome.put ≡ Some file →
    failed ≡ says 4 shelf_fault_line → IsEnding policies words held failed
ending_faulted policies words held outcome file failed (inl usage) put is =
    absurd (none-some file (sym (ap (λ (o : Outcome). o.put) usage.ends) ∙ put))
ending_faulted policies words held outcome file failed (inr served) put is =
    let ends = subst (λ o. EndsCommand policies served.command held o) (sym is) (faulted policies served.command held)
    in
    inr (record { command = served.command; asked = served.asked; ends = ends })

-- a name that no command of the words puts stays
pub stays_by_put :
    (policies : List Policy) (words : List (List ℕ)) (before mid now : Option Files) (outcome : Outcome)
    (file : PutFile) (put name : List ℕ) → IsEnding policies words before outcome → outcome.put ≡ Some file →
    mid ≡ before → put ≡ file.name → OthersStay put mid now →
    ((command : Request) → IsCommand words command → ¬ (PutsUnder command name)) → StaysAt name before now
stays_by_put policies words before mid now outcome file put name ending has kept at others never =
    let puts = ending_puts policies words before outcome file ending has in
    let apart : name ≢ put = λ same. never puts.0 puts.1.0.0 (subst (PutsUnder puts.0) (sym (same ∙ at)) puts.1.0.1) in
    subst (λ h. StaysAt name h now) kept (others name apart)
