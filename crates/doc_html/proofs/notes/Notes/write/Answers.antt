-- The notes, one by one.
use Rattle.std.proofs.Common.{◌≡◌, ◌+◌, ◌<◌, ◌≤◌, ◌⊎◌, [], List, length, refl, inl, inr, arith, true}
use Rattle.std.proofs.lemmas.Bool.{cases_lt}
use Rattle.doc_bits.proofs.Public.{there_is}
use Rattle.doc_html.proofs.NoteLemmas.{NotesAt, note_on, notes_start, notes_written}
use Rattle.doc_view.specs.declared.reading.TextKind.TheVariants as text_kind
use Rattle.doc_html.proofs.notes.Notes.write.Goals as goal

pub loop-k-init : goal.loop-k-init
loop-k-init g c = record {
  path = c.requires.path;
  notes = λ formats are.
      notes_start g.K.Sink c.args.out.now c.args.writer.now.page formats (record {
        hidden = c.args.self.now.hidden;
        kind = text_kind.Note;
        fonts = c.args.self.now.fonts;
      }) c.args.references.now.list c.args.self.now.texts.now;
}

pub loop-k-preserved : goal.loop-k-preserved
loop-k-preserved g c = record {
  path = c.write_note.ensures.path;
  notes = λ formats are.
      let notes = c.args.self.now.texts.now in
      let references = c.args.references.now.list in
      let old = c.loop-k in
      let put = c.write_note in
      let note = there_is notes old.k (omega arith) in
      note_on g.K.Sink c.args.out.now c.args.writer.now.page old.out old.writer.page put.new.out put.new.writer.page
      formats
      (record { hidden = c.args.self.now.hidden; kind = text_kind.Note; fonts = c.args.self.now.fonts }) references notes old.k c.get.result note.0
      (old.invariant.notes formats are) c.get.ensures note.1 (put.ensures.puts formats note.0 are note.1);
}

pub returns-clause-path : goal.returns-clause-path
returns-clause-path g c = c.loop-k.invariant.path

pub returns-clause-puts : goal.returns-clause-puts
returns-clause-puts g c = λ formats are.
    let notes = c.args.self.now.texts.now in
    let references = c.args.references.now.list in
    let old = c.loop-k in
    let ended : (length references ≤ old.k) ⊎ (length notes ≤ old.k) =
    elim (cases_lt (length references) (length notes)) [
      | inl less ↦ inl (omega (arith, less))
      | inr more ↦ inr (omega
          (arith, more))
    ] in
    notes_written g.K.Sink c.args.out.now c.args.writer.now.page old.out old.writer.page formats
    (record { hidden = c.args.self.now.hidden; kind = text_kind.Note; fonts = c.args.self.now.fonts }) (old.k + 1) references notes old.k ended
    (old.invariant.notes formats are)
