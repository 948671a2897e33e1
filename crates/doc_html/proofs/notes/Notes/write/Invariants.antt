use Rattle.std.proofs.Common.{◌≡◌, ◌+◌, [], drop, true}
use Rattle.doc_view.specs.Page.{AreFormats}
use Rattle.doc_view.specs.Seen.{Formats}
use Rattle.doc_html.proofs.NoteLemmas.{NotesAt}
use Rattle.doc_view.specs.declared.reading.TextKind.TheVariants as text_kind
use Rattle.doc_html.proofs.notes.Notes.write.Given as goal

-- the notes so far were written
abbrev pub invariant-loop-k : goal.invariant-loop-k
invariant-loop-k g l = record {
  path : l.writer.path ≡ [];
  notes : (formats : Formats) → AreFormats l.self.formats.now formats → NotesAt g.K.Sink l.fn.out l.fn.writer.page l.out
      l.writer.page formats (record { hidden = l.self.hidden; kind = text_kind.Note; fonts = l.self.fonts }) (l.k + 1) l.references.list
      (drop l.k l.references.list) l.self.texts.now (drop l.k l.self.texts.now);
}
