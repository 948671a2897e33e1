use Rattle.std.proofs.Common.{drop}
use Rattle.doc_view.specs.Page.{AreFormats}
use Rattle.doc_view.specs.Seen.{Formats}
use Rattle.doc_view.proofs.NoteLemmas.{NotesAt}
use Rattle.doc_view.specs.declared.reading.TextKind.TheVariants as text_kind
use Rattle.doc_view.proofs.notes.Notes.push.Given as goal

-- the notes so far were put
abbrev pub invariant-loop-k : goal.invariant-loop-k
invariant-loop-k g l =
    (formats : Formats) → AreFormats l.self.formats.now formats → NotesAt g.K.Sink l.fn.out l.fn.page l.out l.page formats
    (record { hidden = l.self.hidden; kind = text_kind.Note; fonts = l.self.fonts }) l.begun l.references.list (drop l.k l.references.list)
    l.self.texts.now (drop l.k l.self.texts.now)
