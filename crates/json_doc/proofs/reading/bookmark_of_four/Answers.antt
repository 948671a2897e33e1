use Rattle.std.proofs.Common.{◌∙◌, ℕ, List, Some, sym, ap}
use Rattle.std.proofs.lemmas.Result.{err_from_is_err_and}
use Rattle.serde_json.specs.Data.{item, no_items}
use Rattle.serde_json.specs.View.{view}
use Rattle.json_doc.specs.DocumentReading.{bookmark_of_items}
use Rattle.json_doc.proofs.MarkLemmas.{bookmark_with}
use Rattle.json_doc.proofs.RowLemmas.{then_goes, then_lost, gives_lost, gives_err}
use Rattle.json_doc.proofs.reading.bookmark_of_four.Goals as goal

pub returns-in_err-units : goal.returns-in_err-units
returns-in_err-units c =
    let items =
    item (view c.args.name.now) (item (view c.args.from.now) (item (view c.args.to.now) (item (view c.args.flags.now)
    no_items))) in
    let p = err_from_is_err_and c.from_residual.result c.from_residual.ensures.1 in
    rw (p.1, p.2) (gives_err (bookmark_of_items items) c.in_err-units.field-0.0 (λ shape. (then_lost _ (gives_lost
    c.in_err-units.ensures shape))))

pub returns-in_err-begin : goal.returns-in_err-begin
returns-in_err-begin c =
    let items =
    item (view c.args.name.now) (item (view c.args.from.now) (item (view c.args.to.now) (item (view c.args.flags.now)
    no_items))) in
    let p = err_from_is_err_and c.from_residual-in_err-begin.result c.from_residual-in_err-begin.ensures.1 in
    rw (p.1, p.2) (gives_err (bookmark_of_items items) c.in_err-begin.field-0.0 (λ shape. (then_goes _
    c.in_ok-units.ensures (then_lost _ (gives_lost c.in_err-begin.ensures.read shape)))))

pub returns-in_err-end : goal.returns-in_err-end
returns-in_err-end c =
    let items =
    item (view c.args.name.now) (item (view c.args.from.now) (item (view c.args.to.now) (item (view c.args.flags.now)
    no_items))) in
    let p = err_from_is_err_and c.from_residual-in_err-end.result c.from_residual-in_err-end.ensures.1 in
    rw (p.1, p.2) (gives_err (bookmark_of_items items) c.in_err-end.field-0.0 (λ shape. (then_goes _
    c.in_ok-units.ensures (then_goes _ c.in_ok-begin.ensures.read (then_lost _ (gives_lost c.in_err-end.ensures.read
    shape))))))

pub returns-in_err-bits : goal.returns-in_err-bits
returns-in_err-bits c =
    let items =
    item (view c.args.name.now) (item (view c.args.from.now) (item (view c.args.to.now) (item (view c.args.flags.now)
    no_items))) in
    let p = err_from_is_err_and c.from_residual-in_err-bits.result c.from_residual-in_err-bits.ensures.1 in
    rw (p.1, p.2) (gives_err (bookmark_of_items items) c.in_err-bits.field-0.0 (λ shape. (then_goes _
    c.in_ok-units.ensures (then_goes _ c.in_ok-begin.ensures.read (then_goes _ c.in_ok-end.ensures.read (then_lost _
    (gives_lost c.in_err-bits.ensures.read shape)))))))

pub returns : goal.returns
returns c =
    then_goes _ c.in_ok-units.ensures (then_goes _ c.in_ok-begin.ensures.read (then_goes _ c.in_ok-end.ensures.read
    (then_goes _ c.in_ok-bits.ensures.read (ap (λ (name : List ℕ). Some (bookmark_with name c.in_ok-begin.begin
    c.in_ok-end.end c.in_ok-bits.bits)) (sym (c.in_ok-from_slice.ensures ∙ c.as_slice.ensures))))))
