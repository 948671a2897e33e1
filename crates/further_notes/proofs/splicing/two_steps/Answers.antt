use Rattle.std.proofs.Common.{subst, Option}
use Rattle.std.specs.Prelude.{MatchOption}
use Rattle.std.proofs.lemmas.Result.{IfOk-weaker}
use Rattle.doc_mends.specs.declared.mends.NoteStory.TheVariants.{Endnotes, Comments}
use Rattle.further_notes.specs.declared.splicing.NotedDocument.{NotedDocument}
use Rattle.further_notes.specs.Splices.{HasNoStep, IsStorySplice, NoteState, note_state_of}
use Rattle.further_notes.specs.Noted.{AreTwoSteps}
use Rattle.further_notes.proofs.SpliceLemmas.{second_found}
use Rattle.further_notes.proofs.splicing.two_steps.Goals as goal

pub returns-in_default : goal.returns-in_default
returns-in_default c =
    let wd = c.args.wd.now in
    let table = c.args.table.now in
    let old = note_state_of c.args.noted.now in
    let never = subst (λ (o : Option NotedDocument). MatchOption o (HasNoStep Endnotes wd table old)
    (λ new. IsStorySplice Endnotes wd table old (note_state_of new))) c.in_default.is c.in_ok-middle.ensures in
    λ new two. never two.middle two.first

pub returns : goal.returns
returns c =
    let wd = c.args.wd.now in
    let table = c.args.table.now in
    let old = note_state_of c.args.noted.now in
    let middle = c.in-Some.middle in
    let first = subst (λ (o : Option NotedDocument). MatchOption o (HasNoStep Endnotes wd table old)
    (λ new. IsStorySplice Endnotes wd table old (note_state_of new))) c.in-Some.is c.in_ok-middle.ensures in
    rw c.drop_then.ensures
    (IfOk-weaker c.step-last.result
    (λ (found : Option NotedDocument). MatchOption found (HasNoStep Comments wd table (note_state_of middle))
    (λ new. IsStorySplice Comments wd table (note_state_of middle) (note_state_of new)))
    (λ (found : Option NotedDocument). MatchOption found ((new : NoteState) → ¬ AreTwoSteps wd table old new)
    (λ new. AreTwoSteps wd table old (note_state_of new)))
    (λ found is. second_found wd table old (note_state_of middle) found first is) c.step-last.ensures)
