use Rattle.std.proofs.Common.{Option}
use Rattle.std.specs.Prelude.{MatchOption}
use Rattle.std.proofs.lemmas.Result.{IfOk-weaker}
use Rattle.further_notes.specs.declared.splicing.Spliced.{Spliced}
use Rattle.further_notes.specs.Splices.{NoteState, note_state_of}
use Rattle.further_notes.specs.Noted.{AreSteps, IsSplicedFrom, IsSpliced, HasNoSplice}
use Rattle.further_notes.proofs.SpliceLemmas.{all_found}
use Rattle.further_notes.proofs.splicing.with_further_notes.Goals as goal

pub returns : goal.returns
returns c =
    let stories = c.args.stories in
    let wd = c.args.wd.now in
    let table = c.args.table.now in
    let document = c.args.document.now in
    let start = note_state_of c.in_ok-start.start in
    rw c.drop_then.ensures
    (IfOk-weaker c.spliced_from-found.result
    (λ (found : Option Spliced). MatchOption found ((new : NoteState) → ¬ AreSteps stories wd table start new)
    (λ spliced. IsSplicedFrom stories wd table start spliced))
    (λ (found : Option Spliced). MatchOption found (HasNoSplice stories wd table document)
    (λ spliced. IsSpliced stories wd table document spliced.document spliced.made.items))
    (λ found is. all_found stories wd table document start found c.in_ok-start.ensures is)
    c.spliced_from-found.ensures)
