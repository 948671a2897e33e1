-- A command in whose way nothing is is served.
use Rattle.std.proofs.Common.{◌≡◌, ◌≢◌, ◌<◌, ◌≤◌, inl, inr, refl, subst, ℕ, List, Some, length, arith}
use Rattle.doc_bits.specs.declared.places.Where.TheVariants.{File}
use Rattle.doc_bits.specs.Rules.{Rules, Hold, IsSingle, IsFirstOffset}
use Rattle.doc_bits.specs.Places.{Place, Upto, IsFirstPlace}
use Rattle.doc_bits.proofs.Public.{hold_or_first, first_in}
use Rattle.doc_outer.specs.Held.{Files}
use Rattle.cfb_streams.specs.Container.{container_rules}
use Rattle.doc_read.specs.Holds.{all_rules}
use Rattle.doc_read.proofs.Public.{all_single}
use Rattle.edit_guards.specs.Policies.{Policy}
use Rattle.script_run.specs.States.{starting_state}
use Rattle.run_stages.specs.Outcomes.{Outcome}
use Rattle.document_commands.specs.Replies.{EndsByReply}
use Rattle.run_stages.specs.Judged.{Judges}
use Rattle.document_commands.specs.Judged.{rules_by_place}
use Rattle.document_commands.specs.Answers.{ListsStreams, AnswersFile, AnswersTwo}
use Rattle.run_stages.proofs.Public.{status_said, Says, settled}
use Rattle.document_commands.proofs.Public.{ends_done, streams_single, file_done, two_done, import_done}
use Rattle.document_commands.specs.Imports.{Imports}
use Rattle.doc_run.specs.Commands.{Request, streams, on_document, on_two, edit, from_json, generate, IsCommand}
use Rattle.run_stages.specs.Stages.{longest_file, BreaksLengthRule, ReadsFile}
use Rattle.doc_run.specs.Edits.{EditsBy, IsOverlongScript, EditsFile}
use Rattle.doc_run.specs.Imports.{IsOverlongJson}
use Rattle.doc_run.specs.Endings.{ReadsSecond, EndsCommand, IsEnding}
use Rattle.doc_run.specs.Completeness.{HoldsRight, CanServe}
use Rattle.doc_run.proofs.CommandLemmas.{command_one}
use Rattle.doc_run.proofs.GenerateLemmas.{generated_done}
use Rattle.doc_run.proofs.EditLemmas.{edited_done}

-- a file that is too long breaks rule 1
long_breaks : (file : List ℕ) → 7143936 < length file → IsFirstOffset (container_rules file) 1 7143937
long_breaks file h =
    inl (inl (
      refl,
      record {
        broken = record { here = omega arith; wrong = inr (inr h) };
        least = λ p b. let here = b.here in omega arith;
      },
    ))

-- rules that a file which is overlong breaks first
abbrev BreakFirst : (List ℕ → Rules Place) → Type 0
BreakFirst rules = (bytes : List ℕ) → 7143936 < length bytes → IsFirstPlace (rules bytes) 1 (File, 7143937)

streams_break : BreakFirst rules_by_place
streams_break file h = first_in File (container_rules file) 1 7143937 (long_breaks file h)

all_break : BreakFirst all_rules
all_break file h = inl (inl (first_in File (container_rules file) 1 7143937 (long_breaks file h)))

-- where the rules hold the next stage goes on
judged_right :
    (rules : Rules Place) (name : List ℕ) (next : Outcome → Type 0) (outcome : Outcome) → IsSingle rules →
    Hold rules → Judges rules name next outcome → next outcome
judged_right rules name next outcome single hold (inl x) =
    absurd (hold_or_first Upto rules x.rule x.place single hold x.first)
judged_right rules name next outcome single hold (inr x) = x.1

right_says :
    (name : List ℕ) (rules : List ℕ → Rules Place) (next : List ℕ → Outcome → Type 0) (bytes : List ℕ)
    (outcome : Outcome) → BreakFirst rules → IsSingle (rules bytes) → Hold (rules bytes) →
    Says name (BreaksLengthRule name) (λ b. Judges (rules b) name (next b)) (Some bytes) outcome → next bytes outcome
right_says name rules next bytes outcome breaks single hold (inl x) =
    absurd (hold_or_first Upto (rules bytes) 1 (File, 7143937) single hold (breaks bytes x.0))
right_says name rules next bytes outcome breaks single hold (inr x) =
    judged_right (rules bytes) name (next bytes) outcome single hold x.1

-- a file that is there and right goes to the next stage
read_right :
    (name : List ℕ) (files : Files) (rules : List ℕ → Rules Place) (next : List ℕ → Outcome → Type 0)
    (outcome : Outcome) → BreakFirst rules → ((bytes : List ℕ) → IsSingle (rules bytes)) →
    (right : HoldsRight rules files name) → ReadsFile name (Some files) rules next outcome → outcome.status ≢ 4 →
    next right.bytes outcome
read_right name files rules next outcome breaks single right reads calm =
    let bytes = right.bytes in
    let judges = λ (b : List ℕ). Judges (rules b) name (next b) in
    let said : Says name (BreaksLengthRule name) judges (Some bytes) outcome =
    subst (λ t. Says name (BreaksLengthRule name) judges t outcome) right.there
    (settled name files (BreaksLengthRule name) judges outcome reads calm) in
    right_says name rules next bytes outcome breaks (single bytes) right.hold said

short_says :
    (name : List ℕ) (overlong : Outcome → Type 0) (next : List ℕ → Outcome → Type 0) (bytes : List ℕ)
    (outcome : Outcome) → length bytes ≤ longest_file → Says name overlong next (Some bytes) outcome →
    next bytes outcome
short_says name overlong next bytes outcome short (inl x) = let long = x.0 in absurd (omega (arith, long, short))
short_says name overlong next bytes outcome short (inr x) = x.1

served :
    (policies : List Policy) (command : Request) (files : Files) (outcome : Outcome) →
    CanServe policies command files → EndsCommand policies command (Some files) outcome → outcome.status ≢ 4 →
    outcome.status ≡ 0
served policies (streams file) files outcome can ends calm =
    let lists = read_right file files rules_by_place ListsStreams outcome streams_break streams_single can ends calm in
    status_said 0 lists.text outcome lists.ends
served policies (on_document task file) files outcome can ends calm =
    file_done task file can.right.bytes outcome can.can
    (read_right file files all_rules (AnswersFile task file) outcome all_break all_single can.right ends calm)
served policies (on_two pair first second) files outcome can ends calm =
    let one = can.right_first in
    let other = can.right_second in
    let reads =
    read_right first files all_rules (ReadsSecond pair second (Some files)) outcome all_break all_single one ends
    calm in
    two_done pair one.bytes other.bytes outcome can.can
    (read_right second files all_rules (AnswersTwo pair one.bytes) outcome all_break all_single other reads calm)
served policies (edit file script out) files outcome can ends calm =
    let x =
    read_right file files all_rules (EditsFile policies script out (Some files)) outcome all_break all_single
    can.right ends calm in
    let start = starting_state x.session policies in
    let next = λ (b : List ℕ). EndsByReply (Some out) (EditsBy start b) in
    let said : Says script IsOverlongScript next (Some can.bytes) outcome =
    subst (λ t. Says script IsOverlongScript next t outcome) can.there
    (settled script files IsOverlongScript next outcome x.reads calm) in
    edited_done start out can.bytes can.commands outcome can.is (can.accepted x.session x.started)
    (short_says script IsOverlongScript next can.bytes outcome can.short said)
served policies (from_json file out) files outcome can ends calm =
    let next = λ (b : List ℕ). EndsByReply (Some out) (Imports b) in
    let said : Says file IsOverlongJson next (Some can.bytes) outcome =
    subst (λ t. Says file IsOverlongJson next t outcome) can.there
    (settled file files IsOverlongJson next outcome ends calm) in
    ends_done (Some out) (Imports can.bytes) outcome (λ reply is. import_done can.bytes reply can.can is)
    (short_says file IsOverlongJson next can.bytes outcome can.short said)
served policies (generate seed out) files outcome can ends calm = generated_done seed out outcome ends calm

pub complete :
    (policies : List Policy) (words : List (List ℕ)) (command : Request) (files : Files) (outcome : Outcome) →
    IsCommand words command → CanServe policies command files → IsEnding policies words (Some files) outcome →
    outcome.status ≢ 4 → outcome.status ≡ 0
complete policies words command files outcome asked can (inl usage) calm = absurd (usage.none command asked)
complete policies words command files outcome asked can (inr is) calm =
    let e : is.command ≡ command = command_one words is.command command is.asked asked in
    served policies command files outcome can (subst (λ c. EndsCommand policies c (Some files) outcome) e is.ends) calm
