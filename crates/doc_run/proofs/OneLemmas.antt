-- A run has one ending, but for the bytes of a last save that is fast.
use Rattle.std.proofs.Common.{◌≡◌, ◌≢◌, ◌∙◌, inl, inr, sym, subst, ℕ, List, Some}
use Rattle.doc_bits.specs.Rules.{Rules, IsSingle}
use Rattle.doc_bits.specs.Places.{Place, Upto}
use Rattle.doc_bits.proofs.Public.{hold_or_first}
use Rattle.doc_outer.specs.Held.{Files, file_at}
use Rattle.doc_read.specs.Holds.{all_rules}
use Rattle.doc_read.proofs.Public.{all_single}
use Rattle.fast_save.proofs.Public.{session_one}
use Rattle.edit_guards.specs.Policies.{Policy}
use Rattle.script_run.specs.States.{starting_state}
use Rattle.run_stages.specs.Outcomes.{Outcome}
use Rattle.document_commands.specs.Replies.{EndsByReply}
use Rattle.run_stages.specs.Judged.{Judges}
use Rattle.document_commands.specs.Judged.{rules_by_place}
use Rattle.document_commands.specs.Answers.{ListsStreams, AnswersFile, AnswersTwo}
use Rattle.run_stages.proofs.Public.{refused_one, reads_one as read_to_one}
use Rattle.document_commands.proofs.Public.{streams_single, lists_one, file_one, two_one, ends_one as replied_one}
use Rattle.document_commands.proofs.Public.{import_one}
use Rattle.document_commands.specs.Imports.{Imports}
use Rattle.doc_run.specs.Commands.{Request, streams, on_document, on_two, edit, from_json, generate, IsCommand}
use Rattle.run_stages.specs.Stages.{BreaksLengthRule, ReadsNamedFile, ReadsFile}
use Rattle.doc_run.specs.Edits.{EditsBy, IsOverlongScript, EditsFile, ReadsScript}
use Rattle.doc_run.specs.Imports.{IsOverlongJson}
use Rattle.doc_run.specs.Endings.{ReadsSecond, EndsCommand, IsEnding, EndsFast, EndingIsOne}
use Rattle.doc_run.proofs.CommandLemmas.{command_one}
use Rattle.doc_run.proofs.AlikeLemmas.{IsOne, one_same, one_when}
use Rattle.doc_run.proofs.GenerateLemmas.{EndsFastFrom, generated_one}
use Rattle.doc_run.proofs.EditLemmas.{edited_one}

-- a name is read to one ending, where the next stage has one
reads_one :
    (free : Type 0) (name : List ℕ) (files : Files) (overlong : Outcome → Type 0) (next : List ℕ → Outcome → Type 0)
    (a b : Outcome) → a.status ≢ 4 → b.status ≢ 4 → (overlong a → overlong b → a ≡ b) →
    ((bytes : List ℕ) → file_at files name ≡ Some bytes → next bytes a → next bytes b → IsOne free a b) →
    ReadsNamedFile name (Some files) overlong next a → ReadsNamedFile name (Some files) overlong next b → IsOne free a b
reads_one free name files overlong next a b ca cb long one x y =
    read_to_one (IsOne free a b) name files overlong next a b ca cb (one_same free a b) long one x y

-- one answer of a stage that checks, where the next stage has one
judges_one :
    (free : Type 0) (rules : Rules Place) (name : List ℕ) (next : Outcome → Type 0) (a b : Outcome) → IsSingle rules →
    (next a → next b → IsOne free a b) → Judges rules name next a → Judges rules name next b → IsOne free a b
judges_one free rules name next a b single one (inl x) (inl y) =
    one_same free a b (refused_one rules name a b single x y)
judges_one free rules name next a b single one (inl x) (inr y) =
    absurd (hold_or_first Upto rules x.rule x.place single y.0 x.first)
judges_one free rules name next a b single one (inr x) (inl y) =
    absurd (hold_or_first Upto rules y.rule y.place single x.0 y.first)
judges_one free rules name next a b single one (inr x) (inr y) = one x.1 y.1

-- a file is read and checked to one ending
files_one :
    (free : Type 0) (name : List ℕ) (files : Files) (rules : List ℕ → Rules Place) (next : List ℕ → Outcome → Type 0)
    (a b : Outcome) → a.status ≢ 4 → b.status ≢ 4 → ((bytes : List ℕ) → IsSingle (rules bytes)) →
    ((bytes : List ℕ) → next bytes a → next bytes b → IsOne free a b) → ReadsFile name (Some files) rules next a →
    ReadsFile name (Some files) rules next b → IsOne free a b
files_one free name files rules next a b ca cb single one x y =
    reads_one free name files (BreaksLengthRule name) (λ bytes. Judges (rules bytes) name (next bytes)) a b ca cb
    (λ s t. s ∙ sym t)
    (λ bytes there s t. judges_one free (rules bytes) name (next bytes) a b (single bytes) (one bytes) s t) x y

-- a script is read to one ending
scripts_one :
    (policies : List Policy) (words : List (List ℕ)) (file script out : List ℕ) (files : Files) (bytes : List ℕ)
    (a b : Outcome) → IsCommand words (edit file script out) → a.status ≢ 4 → b.status ≢ 4 →
    EditsFile policies script out (Some files) bytes a → EditsFile policies script out (Some files) bytes b →
    IsOne (EndsFast words files) a b
scripts_one policies words file script out files bytes a b asked ca cb x y =
    let same : x.session ≡ y.session = session_one bytes x.session y.session x.started y.started in
    let start = starting_state y.session policies in
    let reads = subst (λ s. ReadsScript script out (Some files) (starting_state s policies) a) same x.reads in
    reads_one (EndsFast words files) script files IsOverlongScript (λ read. EndsByReply (Some out) (EditsBy start read))
    a b
    ca cb (λ s t. s ∙ sym t)
    (λ read there s t. edited_one (EndsFast words files) start out read a b (λ commands is last. inl (record {
      file = file;
      script = script;
      out = out;
      asked = asked;
      bytes = read;
      there = there;
      commands = commands;
      is = is;
      last = last;
    })) s t) reads y.reads

-- one ending of a command
ends_one :
    (policies : List Policy) (words : List (List ℕ)) (command : Request) (files : Files) (a b : Outcome) →
    IsCommand words command → EndsCommand policies command (Some files) a → EndsCommand policies command (Some files) b
    →
    a.status ≢ 4 → b.status ≢ 4 → IsOne (EndsFast words files) a b
ends_one policies words (streams file) files a b asked x y ca cb =
    let free = EndsFast words files in
    files_one free file files rules_by_place ListsStreams a b ca cb streams_single
    (λ bytes s t. one_same free a b (lists_one bytes a b s t)) x y
ends_one policies words (on_document task file) files a b asked x y ca cb =
    let free = EndsFast words files in
    files_one free file files all_rules (AnswersFile task file) a b ca cb all_single
    (λ bytes s t. one_same free a b (file_one task file bytes a b s t)) x y
ends_one policies words (on_two pair first second) files a b asked x y ca cb =
    let free = EndsFast words files in
    files_one free first files all_rules (ReadsSecond pair second (Some files)) a b ca cb all_single
    (λ one s t. files_one free second files all_rules (AnswersTwo pair one) a b ca cb all_single
    (λ other u v. one_same free a b (two_one pair one other a b u v)) s t) x y
ends_one policies words (edit file script out) files a b asked x y ca cb =
    files_one (EndsFast words files) file files all_rules (EditsFile policies script out (Some files)) a b ca cb
    all_single (λ bytes s t. scripts_one policies words file script out files bytes a b asked ca cb s t) x y
ends_one policies words (from_json file out) files a b asked x y ca cb =
    let free = EndsFast words files in
    reads_one free file files IsOverlongJson (λ bytes. EndsByReply (Some out) (Imports bytes)) a b ca cb (λ s t. s ∙ sym
    t)
    (λ bytes there s t. one_same free a b (replied_one (Some out) (Imports bytes) a b (import_one bytes) s t)) x y
ends_one policies words (generate seed out) files a b asked x y ca cb =
    one_when (EndsFastFrom seed) (EndsFast words files) a b
    (λ last. inr (record { seed = seed; out = out; asked = asked; last = last }))
    (generated_one seed out a b asked.number.few x y ca cb)

-- one ending of a run
run_one :
    (policies : List Policy) (words : List (List ℕ)) (files : Files) (a b : Outcome) →
    IsEnding policies words (Some files) a → IsEnding policies words (Some files) b → a.status ≢ 4 → b.status ≢ 4 →
    IsOne (EndsFast words files) a b
run_one policies words files a b (inl x) (inl y) ca cb = one_same (EndsFast words files) a b (x.ends ∙ sym y.ends)
run_one policies words files a b (inl x) (inr y) ca cb = absurd (x.none y.command y.asked)
run_one policies words files a b (inr x) (inl y) ca cb = absurd (y.none x.command x.asked)
run_one policies words files a b (inr x) (inr y) ca cb =
    let e : x.command ≡ y.command = command_one words x.command y.command x.asked y.asked in
    ends_one policies words y.command files a b y.asked (subst (λ c. EndsCommand policies c (Some files) a) e x.ends)
    y.ends ca
    cb

pub ending_one : EndingIsOne
ending_one = record {
  alike = λ policies words files a b x y ca cb. (run_one policies words files a b x y ca cb).0;
  same = λ policies words files a b x y ca cb closed. (run_one policies words files a b x y ca cb).1 closed;
}
