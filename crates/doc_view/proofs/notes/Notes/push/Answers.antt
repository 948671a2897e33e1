-- The notes, one by one.
use Rattle.std.proofs.Common.{◌≤◌, ◌⊎◌, [], length, refl, inl, inr, arith}
use Rattle.std.proofs.lemmas.Bool.{cases_lt}
use Rattle.doc_bits.proofs.Public.{there_is}
use Rattle.doc_view.proofs.NoteLemmas.{note_on, notes_put}
use Rattle.page_out.proofs.Public.{nothing_put}
use Rattle.doc_view.specs.declared.reading.TextKind.TheVariants as text_kind
use Rattle.doc_view.proofs.notes.Notes.push.Goals as goal

pub loop-k-init : goal.loop-k-init
loop-k-init g c = λ formats are.
    record { text = []; prints = nothing_put g.K.Sink c.args.out.now c.args.page.now; whole = refl }

pub loop-k-preserved : goal.loop-k-preserved
loop-k-preserved g c = λ formats are.
    let notes = c.args.self.now.texts.now in
    let references = c.args.references.now.list in
    let old = c.loop-k in
    let put = c.push_note-begun in
    let note = there_is notes old.k (omega arith) in
    note_on g.K.Sink c.args.out.now c.args.page.now old.out old.page put.new.out put.new.page formats
    (record { hidden = c.args.self.now.hidden; kind = text_kind.Note; fonts = c.args.self.now.fonts }) old.begun put.result references notes old.k c.get.result
    note.0 (old.invariant formats are) c.get.ensures note.1 (put.ensures.text formats note.0 are note.1)
    (put.ensures.begun formats note.0 are note.1)

pub returns : goal.returns
returns g c = λ formats are.
    let notes = c.args.self.now.texts.now in
    let references = c.args.references.now.list in
    let old = c.loop-k in
    let ended : (length references ≤ old.k) ⊎ (length notes ≤ old.k) =
    elim (cases_lt (length references) (length notes)) [ inl less ↦ inl (omega (arith, less)) | inr more ↦ inr (omega (arith, more)) ] in
    notes_put g.K.Sink c.args.out.now c.args.page.now old.out old.page formats
    (record { hidden = c.args.self.now.hidden; kind = text_kind.Note; fonts = c.args.self.now.fonts }) old.begun references notes old.k ended
    (old.invariant formats are)
