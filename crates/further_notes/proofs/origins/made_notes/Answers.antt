use Rattle.std.proofs.Common.{◌∙◌, rules, List, Option, None}
use Rattle.std.proofs.lemmas.Option.{slice_get-get_or}
use Rattle.doc_parts.specs.Tabulated.{tabulate}
use Rattle.further_notes.specs.declared.origins.NoteOrigin.{NoteOrigin}
use Rattle.further_notes.proofs.SourceLemmas.{made_more}
use Rattle.further_notes.proofs.origins.made_notes.Goals as goal

pub loop-note-init : goal.loop-note-init
unfolding tabulate
loop-note-init c = search rules

pub loop-note-preserved : goal.loop-note-preserved
loop-note-preserved c =
    let origins : List (Option NoteOrigin) = c.args.origins.now in
    c.in_ok-push_made.ensures
    ∙ made_more origins c.loop-note.note _ c.loop-note.made.items
    (slice_get-get_or origins c.loop-note.note None c.loop-note-test.true) c.loop-note.invariant
