use Rattle.std.proofs.Common.{refl}
use Rattle.std.proofs.lemmas.Result.{err_from_is_err_and}
use Rattle.serde_json.specs.View.{view}
use Rattle.json_doc.specs.PieceReading.{piece_of}
use Rattle.json_doc.proofs.RowLemmas.{gives_err, gives_lost, then_goes, then_lost}
use Rattle.json_doc.proofs.piece_reading.piece_in.Goals as goal

pub returns-in_err-row : goal.returns-in_err-row
returns-in_err-row c =
    let p = err_from_is_err_and c.from_residual.result c.from_residual.ensures.1 in
    rw (p.1, p.2) (gives_err (piece_of (view c.args.value.now)) c.in_err-row.field-0.0 (λ shape. then_lost _
    c.in_err-row.ensures.1))

pub returns-in_err-chp : goal.returns-in_err-chp
returns-in_err-chp c =
    let p = err_from_is_err_and c.from_residual-in_err-chp.result c.from_residual-in_err-chp.ensures.1 in
    rw (p.1, p.2) (gives_err (piece_of (view c.args.value.now)) c.in_err-chp.field-0.0 (λ shape. (then_goes _
    c.in_ok-row.ensures (then_lost _ (rw shape at c.in_err-chp.ensures)))))

pub returns-in_err-fld : goal.returns-in_err-fld
returns-in_err-fld c =
    let p = err_from_is_err_and c.from_residual-in_err-fld.result c.from_residual-in_err-fld.ensures.1 in
    rw (p.1, p.2) (gives_err (piece_of (view c.args.value.now)) c.in_err-fld.field-0.0 (λ shape. (then_goes _
    c.in_ok-row.ensures (then_goes _ c.in_ok-chp.ensures (then_lost _ (rw shape at c.in_err-fld.ensures))))))

pub returns-in_err-mark : goal.returns-in_err-mark
returns-in_err-mark c =
    let p = err_from_is_err_and c.from_residual-in_err-mark.result c.from_residual-in_err-mark.ensures.1 in
    rw (p.1, p.2) (gives_err (piece_of (view c.args.value.now)) c.in_err-mark.field-0.0 (λ shape. (then_goes _
    c.in_ok-row.ensures (then_goes _ c.in_ok-chp.ensures (then_goes _ c.in_ok-fld.ensures (then_lost _ (rw shape at
    c.in_err-mark.ensures)))))))

pub returns-in_err-note : goal.returns-in_err-note
returns-in_err-note c =
    let p = err_from_is_err_and c.from_residual-in_err-note.result c.from_residual-in_err-note.ensures.1 in
    rw (p.1, p.2) (gives_err (piece_of (view c.args.value.now)) c.in_err-note.field-0.0 (λ shape. (then_goes _
    c.in_ok-row.ensures (then_goes _ c.in_ok-chp.ensures (then_goes _ c.in_ok-fld.ensures (then_goes _
    c.in_ok-mark.ensures (then_lost _ (rw shape at c.in_err-note.ensures))))))))

pub returns-in_err-units : goal.returns-in_err-units
returns-in_err-units c =
    let p = err_from_is_err_and c.from_residual-in_err-units.result c.from_residual-in_err-units.ensures.1 in
    rw (p.1, p.2) (gives_err (piece_of (view c.args.value.now)) c.in_err-units.field-0.0 (λ shape. (then_goes _
    c.in_ok-row.ensures (then_goes _ c.in_ok-chp.ensures (then_goes _ c.in_ok-fld.ensures (then_goes _
    c.in_ok-mark.ensures (then_goes _ c.in_ok-note.ensures (then_lost _ (rw shape at c.in_err-units.ensures)))))))))

pub returns-in_err-sect : goal.returns-in_err-sect
returns-in_err-sect c =
    let p = err_from_is_err_and c.from_residual-in_err-sect.result c.from_residual-in_err-sect.ensures.1 in
    rw (p.1, p.2) (gives_err (piece_of (view c.args.value.now)) c.in_err-sect.field-0.0 (λ shape. (then_goes _
    c.in_ok-row.ensures (then_goes _ c.in_ok-chp.ensures (then_goes _ c.in_ok-fld.ensures (then_goes _
    c.in_ok-mark.ensures (then_goes _ c.in_ok-note.ensures (then_goes _ c.in_ok-units.ensures (then_lost _ (rw shape
    at c.in_err-sect.ensures))))))))))

pub returns-in_err-end : goal.returns-in_err-end
returns-in_err-end c =
    let p = err_from_is_err_and c.from_residual-in_err-end.result c.from_residual-in_err-end.ensures.1 in
    rw (p.1, p.2) (gives_err (piece_of (view c.args.value.now)) c.in_err-end.field-0.0 (λ shape. (then_goes _
    c.in_ok-row.ensures (then_goes _ c.in_ok-chp.ensures (then_goes _ c.in_ok-fld.ensures (then_goes _
    c.in_ok-mark.ensures (then_goes _ c.in_ok-note.ensures (then_goes _ c.in_ok-units.ensures (then_goes _
    c.in_ok-sect.ensures (then_lost _ (gives_lost c.in_err-end.ensures shape)))))))))))

pub returns : goal.returns
returns c =
    then_goes _ c.in_ok-row.ensures (then_goes _ c.in_ok-chp.ensures (then_goes _ c.in_ok-fld.ensures (then_goes _
    c.in_ok-mark.ensures (then_goes _ c.in_ok-note.ensures (then_goes _ c.in_ok-units.ensures (then_goes _
    c.in_ok-sect.ensures (then_goes _ c.in_ok-end.ensures refl)))))))
