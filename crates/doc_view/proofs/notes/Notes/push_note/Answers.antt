use Rattle.std.proofs.Common.{◌≡◌, ◌∙◌, Bool, ◌||◌, arith, ap, sym}
use Rattle.std.proofs.lemmas.Option.{same_Some}
use Rattle.doc_columns.specs.Walks.{items_in}
use Rattle.doc_view.specs.declared.reading.Manner.{Manner}
use Rattle.doc_view.specs.declared.reading.TextKind.TheVariants as text_kind
use Rattle.doc_view.proofs.NoteLemmas.{none_met, note_here, note_some, shown_by}
use Rattle.doc_view.specs.Notes.{has_lines}
use Rattle.doc_view.proofs.notes.Notes.push_note.Goals.{then-begun, else-begun}
use Rattle.doc_view.proofs.notes.Notes.push_note.Goals as goal

pub push-some-requires-clause-room : goal.push-some-requires-clause-room
push-some-requires-clause-room g c =
    let none = none_met c.args.self.now.hidden c.args.self.now.fonts (items_in c.parts.result) in omega (arith, none)

pub returns-clause-text : goal.returns-clause-text
returns-clause-text g c = λ formats note are there.
    let manner : Manner = record { hidden = c.args.self.now.hidden; kind = text_kind.Note; fonts = c.args.self.now.fonts } in
    let items : items_in c.parts.result ≡ note =
    c.parts.ensures.items ∙ same_Some c.get.result.now note (sym c.get.ensures ∙ there) in
    note_here g.K.Sink c.args.out.now c.push-some.new.out c.args.page.now c.push-some.new.page formats manner
    c.args.begun c.args.reference note (items_in c.parts.result) c.of_note.result c.new-values.result
    (shown_by c.args.reference.is_shown c.if-not-reference.false) c.of_note.ensures c.new-values.ensures items (c.push-some.ensures.text formats are)

pub returns-clause-begun : goal.returns-clause-begun
returns-clause-begun g c = λ formats note are there.
    let manner : Manner = record { hidden = c.args.self.now.hidden; kind = text_kind.Note; fonts = c.args.self.now.fonts } in
    let items : items_in c.parts.result ≡ note =
    c.parts.ensures.items ∙ same_Some c.get.result.now note (sym c.get.ensures ∙ there) in
    let some =
    note_some formats manner c.args.reference note (items_in c.parts.result) c.new-values.result
    c.push-some.result.1 (shown_by c.args.reference.is_shown c.if-not-reference.false) c.new-values.ensures items (c.push-some.ensures.some formats are) in
    let here = has_lines formats manner c.args.reference note in
    elim c.if-begun.branch [
      | then-begun w ↦ w.result-is ∙ (w.if-begun.true ∙ sym (ap (λ (b : Bool). b || here) w.if-begun.true))
      | else-begun w ↦ w.result-is ∙ (some ∙ sym (ap (λ (b : Bool). b || here) w.if-begun.false))
    ]
