use Rattle.std.proofs.Common.{◌-◌, length}
use Rattle.doc_view.specs.Page.{AreFormats}
use Rattle.doc_view.specs.Seen.{Formats}
use Rattle.doc_view.specs.declared.reading.TextKind.TheVariants as text_kind
use Rattle.doc_view.proofs.HeaderLemmas.{HeadersAt}
use Rattle.doc_view.proofs.headers.Headers.push.Given as goal

-- the header texts so far were put
abbrev pub invariant-loop-number : goal.invariant-loop-number
invariant-loop-number g l =
    (formats : Formats) → AreFormats l.self.formats.now formats → HeadersAt g.K.Sink l.fn.out l.fn.page l.out l.page
    formats (record { hidden = l.self.hidden; kind = text_kind.Header; fonts = l.self.fonts }) l.begun l.number l.self.texts.now

abbrev pub decreases-loop-number : goal.decreases-loop-number
decreases-loop-number g l = length l.self.texts.now - l.number
