use Rattle.std.proofs.Common.{sym, subst}
use Rattle.std.specs.Prelude.{MatchOption}
use Rattle.further_notes.specs.declared.stories.NotedStories.{NotedStories}
use Rattle.further_notes.specs.Splices.{NoteState, note_state_of}
use Rattle.further_notes.specs.Noted.{AreSteps}
use Rattle.further_notes.proofs.splicing.steps.Goals as goal

pub returns-in_ok-both-in-Both : goal.returns-in_ok-both-in-Both
returns-in_ok-both-in-Both c =
    let wd = c.args.wd.now in
    let table = c.args.table.now in
    let old = note_state_of c.args.noted.now in
    subst
    (λ (s : NotedStories). MatchOption c.in_ok-both-in-Both.both ((new : NoteState) → ¬ AreSteps s wd table old new)
    (λ last. AreSteps s wd table old (note_state_of last))) (sym c.in-Both.is) c.in_ok-both-in-Both.ensures

pub returns-in_ok-endnotes-in-Endnotes : goal.returns-in_ok-endnotes-in-Endnotes
returns-in_ok-endnotes-in-Endnotes c =
    let wd = c.args.wd.now in
    let table = c.args.table.now in
    let old = note_state_of c.args.noted.now in
    subst
    (λ (s : NotedStories). MatchOption c.in_ok-endnotes-in-Endnotes.endnotes ((new : NoteState) → ¬ AreSteps s wd table old new)
    (λ last. AreSteps s wd table old (note_state_of last))) (sym c.in-Endnotes.is) c.in_ok-endnotes-in-Endnotes.ensures

pub returns-in_ok-comments-in-Comments : goal.returns-in_ok-comments-in-Comments
returns-in_ok-comments-in-Comments c =
    let wd = c.args.wd.now in
    let table = c.args.table.now in
    let old = note_state_of c.args.noted.now in
    subst
    (λ (s : NotedStories). MatchOption c.in_ok-comments-in-Comments.comments ((new : NoteState) → ¬ AreSteps s wd table old new)
    (λ last. AreSteps s wd table old (note_state_of last))) (sym c.in-Comments.is) c.in_ok-comments-in-Comments.ensures
