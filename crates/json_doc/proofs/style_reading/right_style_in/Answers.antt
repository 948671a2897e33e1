use Rattle.std.proofs.Common.{rules}
use Rattle.std.proofs.lemmas.Result.{err_from_is_err_and}
use Rattle.serde_json.specs.View.{view}
use Rattle.style_sheet.specs.Formed.{IsFormedStyle}
use Rattle.json_doc.proofs.ReadLemmas.{misfit, refused, accepted}
use Rattle.json_doc.proofs.StyleReadLemmas.{styles_one, style_spelt}
use Rattle.json_doc.proofs.style_reading.right_style_in.Goals as goal

pub returns-in_err-style : goal.returns-in_err-style
returns-in_err-style c =
    let p = err_from_is_err_and c.from_residual.result c.from_residual.ensures.1 in
    rw (p.1, p.2) (misfit styles_one IsFormedStyle style_spelt (view c.args.value.now) c.in_err-style.field-0.0
    c.in_err-style.ensures)

pub returns-then-not-is_valid_style : goal.returns-then-not-is_valid_style
returns-then-not-is_valid_style c =
    refused styles_one IsFormedStyle style_spelt (view c.args.value.now) c.in_ok-style.style c.in_ok-style.ensures
    (λ formed. absurd (search (rules, c.is_valid_style.ensures.1 formed)))

pub returns : goal.returns
returns c =
    accepted styles_one IsFormedStyle style_spelt (view c.args.value.now) c.in_ok-style.style c.in_ok-style.ensures
    (c.is_valid_style.ensures.0 (search rules))
