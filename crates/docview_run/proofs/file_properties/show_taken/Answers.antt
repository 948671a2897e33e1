use Rattle.std.proofs.Common.{◌≡◌, List, ℕ, sym, subst, arith}
use Rattle.property_text.specs.Printable.{HasNoControls}
use Rattle.docview_run.proofs.EndLemmas.{printed_after}
use Rattle.docview_run.proofs.PropertyLemmas.{page_ends, page_refused}
use Rattle.docview_run.proofs.file_properties.show_taken.Goals as goal

pub returns-in-Ok-clause-ends : goal.returns-in-Ok-clause-ends
returns-in-Ok-clause-ends g c =
    page_ends g.K.Sink c.args.out.now c.print.new.out c.args.name.now c.args.file.now c.as_str.result.now
    c.print.result c.in-Ok.ensures.0
    (subst (λ (text : List ℕ). HasNoControls text) (sym c.as_str.ensures) c.in-Ok.ensures.1) c.print.ensures.ends

pub returns-in-Ok-clause-bytes : goal.returns-in-Ok-clause-bytes
returns-in-Ok-clause-bytes g c = λ i. let byte = c.type_inv.file i in omega arith

pub returns-in-Ok-clause-after : goal.returns-in-Ok-clause-after
returns-in-Ok-clause-after g c = printed_after c.print.result c.print.ensures.status

pub returns-in-Ok-tell_refusal-clause-ends : goal.returns-in-Ok-tell_refusal-clause-ends
returns-in-Ok-tell_refusal-clause-ends g c =
    let refused = c.in-Err-Refused in
    let first = rw refused.field-0-is at refused.ensures in
    page_refused g.K.Sink c.args.out.now c.args.name.now c.args.file.now refused.rule (refused.place, refused.offset)
    first
