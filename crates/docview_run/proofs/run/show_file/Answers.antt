use Rattle.std.proofs.Common.{◌≡◌, sym, subst, arith}
use Rattle.doc_model.specs.declared.document.Document.{Document}
use Rattle.plain_doc.specs.Sound.{IsSound}
use Rattle.doc_read.specs.Holds.{HoldsDocument}
use Rattle.docview_run.proofs.ViewLemmas.{held_ends, refused_ends}
use Rattle.docview_run.proofs.run.show_file.Goals as goal
use Rattle.doc_bits.proofs.Public.{not_true}
use Rattle.doc_view.proofs.Public.{shown_by}
use Rattle.doc_fit.proofs.Public.{refused_not_accepted}

pub show_document-status-requires : goal.show_document-status-requires
show_document-status-requires g c =
    subst (λ (d : Document). IsSound d) (sym c.document.ensures) c.in-Ok.ensures.sound

pub returns-in-Ok-clause-ends : goal.returns-in-Ok-clause-ends
returns-in-Ok-clause-ends g c =
    let file = c.args.file.now in
    let shown = c.show_document-status in
    held_ends g.K.Sink c.args.out.now shown.new.out c.args.name.now file c.args.view c.document.result.now
    shown.result c.in-Ok.ensures.accepted
    (subst (λ (d : Document). HoldsDocument file d) (sym c.document.ensures) c.in-Ok.ensures.holds) shown.ensures.ends

pub returns-in-Ok-clause-bytes : goal.returns-in-Ok-clause-bytes
returns-in-Ok-clause-bytes g c = λ i. let byte = c.type_inv.file i in omega arith

pub returns-in-Ok-clause-after : goal.returns-in-Ok-clause-after
returns-in-Ok-clause-after g c = c.show_document-status.ensures.after

pub show_lifted-requires-clause-refused : goal.show_lifted-requires-clause-refused
show_lifted-requires-clause-refused g c =
    let refused = c.in-Err-Refused in
    let first = rw refused.field-0-is at refused.ensures in
    refused_not_accepted c.args.file.now refused.rule (refused.place, refused.offset) first

pub show_lifted-requires-clause-lifts : goal.show_lifted-requires-clause-lifts
show_lifted-requires-clause-lifts g c = not_true c.args.view.strict c.if-not-view.true

pub returns-in-Ok-tell_refusal-clause-ends : goal.returns-in-Ok-tell_refusal-clause-ends
returns-in-Ok-tell_refusal-clause-ends g c =
    let refused = c.in-Err-Refused in
    let first = rw refused.field-0-is at refused.ensures in
    refused_ends g.K.Sink c.args.out.now c.args.name.now c.args.file.now c.args.view refused.rule
    (refused.place, refused.offset) (shown_by c.args.view.strict c.if-not-view.false) first
