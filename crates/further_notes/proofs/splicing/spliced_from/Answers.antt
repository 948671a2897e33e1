use Rattle.std.proofs.Common.{subst, Option}
use Rattle.std.specs.Prelude.{MatchOption}
use Rattle.further_notes.specs.declared.splicing.NotedDocument.{NotedDocument}
use Rattle.further_notes.specs.Splices.{NoteState, note_state_of}
use Rattle.further_notes.specs.Noted.{AreSteps}
use Rattle.further_notes.proofs.splicing.spliced_from.Goals as goal

pub returns-in_ok-spliced-in-Some : goal.returns-in_ok-spliced-in-Some
returns-in_ok-spliced-in-Some c =
    let stories = c.args.stories in
    let wd = c.args.wd.now in
    let table = c.args.table.now in
    let start = note_state_of c.args.start.now in
    record {
      last = note_state_of c.in-Some.noted;
      steps = subst (λ (o : Option NotedDocument). MatchOption o
          ((new : NoteState) → ¬ AreSteps stories wd table start new)
          (λ last. AreSteps stories wd table start (note_state_of last))) c.in-Some.is c.in_ok-last.ensures;
      document_is = c.in_ok-spliced-in-Some.ensures.document;
      made_are = c.in_ok-spliced-in-Some.ensures.made;
    }
