use Rattle.std.proofs.Common.{◌≡◌, ◌∙◌, ◌≤◌, ap, subst, ℕ, List, Option, arith}
use Rattle.std.specs.Prelude.{MatchOption}
use Rattle.fib_versions.specs.declared.further.Further.{Further}
use Rattle.fib_versions.specs.Versions.{further_count}
use Rattle.further_notes.specs.NoteFiles.{FitsNoteFile, note_file, story_behind}
use Rattle.further_notes.specs.Forms.{note_form_of}
use Rattle.further_notes.specs.Splices.{note_state_of}
use Rattle.further_notes.proofs.SpliceLemmas.{step_found}
use Rattle.further_notes.proofs.splicing.step.Goals as goal

pub returns-in_ok-found-in-Some : goal.returns-in_ok-found-in-Some
returns-in_ok-found-in-Some c =
    let story = c.args.story in
    let wd = c.args.wd.now in
    let table = c.args.table.now in
    let made = subst (λ (o : Option (List ℕ)). MatchOption o (¬ FitsNoteFile story wd table)
    (λ f. FitsNoteFile story wd table × (f ≡ note_file story wd table))) c.in-Some.is c.in_ok-note_file.ensures in
    let count : c.further.result ≡ further_count wd (story_behind story) =
    c.further.ensures ∙ (λ i. further_count (c.requires.same i) (c.further_story.ensures i)) in
    let some : 1 ≤ further_count wd (story_behind story) = omega (arith, count, c.if-further-eq0.false) in
    step_found story wd table c.as_slice.result.now c.in_ok-form-in-Some.form (note_state_of c.args.noted.now)
    c.in_ok-found-in-Some.found (record { some = some; fits = made.0 }) (c.as_slice.ensures ∙ made.1)
    (c.in_ok-form-in-Some.ensures ∙ ap (λ (w : List ℕ). note_form_of story w table) c.requires.same)
    c.in_ok-found-in-Some.ensures
