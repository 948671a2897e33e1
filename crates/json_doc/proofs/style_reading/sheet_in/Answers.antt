use Rattle.std.proofs.Common.{ap, ◌∙◌, length}
use Rattle.std.proofs.lemmas.Result.{err_from_is_err_and}
use Rattle.serde_json.specs.View.{view}
use Rattle.style_sheet.specs.Formed.{IsFormedSheet}
use Rattle.json_doc.specs.Styles.{sheet_json}
use Rattle.json_doc.proofs.SheetLemmas.{no_sheet, other_len, sheet_told}
use Rattle.json_doc.proofs.ValueLemmas.{tells_err}
use Rattle.json_doc.proofs.style_reading.sheet_in.Goals as goal

pub returns-in_err-head : goal.returns-in_err-head
returns-in_err-head c =
    let p = err_from_is_err_and c.from_residual.result c.from_residual.ensures.1 in
    rw (p.1, p.2) (tells_err sheet_json IsFormedSheet (view c.args.value.now) c.in_err-head.field-0.0
    (λ shape. no_sheet (view c.args.value.now) (c.in_err-head.ensures shape)))

pub returns-then-as_slice-ne-HEAD_LEN : goal.returns-then-as_slice-ne-HEAD_LEN
returns-then-as_slice-ne-HEAD_LEN c =
    other_len (view c.args.value.now) c.in_ok-head.head (view c.in_ok-head.slots.now) c.in_ok-head.ensures
    (λ seven. c.if-as_slice-ne-HEAD_LEN.true (ap length c.as_slice.ensures ∙ seven))

pub returns : goal.returns
returns c =
    sheet_told (view c.args.value.now) c.in_ok-head.head c.copy_from_slice.new.self (view c.in_ok-head.slots.now)
    c.slots_in.result c.in_ok-head.ensures (c.copy_from_slice.ensures.after ∙ c.as_slice-2.ensures) c.slots_in.ensures
