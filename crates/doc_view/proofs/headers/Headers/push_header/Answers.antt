use Rattle.std.proofs.Common.{◌≡◌, ◌∙◌, Bool, ◌||◌, arith, ap, sym}
use Rattle.std.proofs.lemmas.Option.{same_Some}
use Rattle.doc_columns.specs.Walks.{items_in}
use Rattle.doc_view.specs.declared.reading.Manner.{Manner}
use Rattle.doc_view.specs.declared.reading.TextKind.TheVariants as text_kind
use Rattle.doc_view.specs.Layout.{some_here}
use Rattle.doc_view.specs.Seen.{paragraphs_of}
use Rattle.doc_view.proofs.HeaderLemmas.{header_here, header_some, no_references}
use Rattle.doc_view.proofs.headers.Headers.push_header.Goals.{then-begun, else-begun}
use Rattle.doc_view.proofs.headers.Headers.push_header.Goals as goal

pub push-some-requires-clause-room : goal.push-some-requires-clause-room
push-some-requires-clause-room g c =
    let none = no_references c.args.self.now.hidden c.args.self.now.fonts (items_in c.parts.result) in omega (arith, none)

pub returns-clause-text : goal.returns-clause-text
returns-clause-text g c = λ formats text are there.
    let manner : Manner = record { hidden = c.args.self.now.hidden; kind = text_kind.Header; fonts = c.args.self.now.fonts } in
    let items : items_in c.parts.result ≡ text =
    c.parts.ensures.items ∙ same_Some c.get.result.now text (sym c.get.ensures ∙ there) in
    header_here g.K.Sink c.args.out.now c.push-some.new.out c.args.page.now c.push-some.new.page formats manner
    c.args.begun c.args.number text (items_in c.parts.result) c.new-values.result c.new-values.ensures items
    (c.push-some.ensures.text formats are)

pub returns-clause-begun : goal.returns-clause-begun
returns-clause-begun g c = λ formats text are there.
    let manner : Manner = record { hidden = c.args.self.now.hidden; kind = text_kind.Header; fonts = c.args.self.now.fonts } in
    let items : items_in c.parts.result ≡ text =
    c.parts.ensures.items ∙ same_Some c.get.result.now text (sym c.get.ensures ∙ there) in
    let some =
    header_some formats manner text (items_in c.parts.result) c.new-values.result c.push-some.result.1
    c.new-values.ensures items (c.push-some.ensures.some formats are) in
    let here = some_here (paragraphs_of formats manner text) in
    elim c.if-begun.branch [
      | then-begun w ↦ w.result-is ∙ (w.if-begun.true ∙ sym (ap (λ (b : Bool). b || here) w.if-begun.true))
      | else-begun w ↦ w.result-is ∙ (some ∙ sym (ap (λ (b : Bool). b || here) w.if-begun.false))
    ]
