use Rattle.std.proofs.Common.{refl}
use Rattle.std.proofs.lemmas.Result.{err_from_is_err_and}
use Rattle.json_doc.proofs.RowLemmas.{gives_lost, then_goes, then_lost}
use Rattle.json_doc.proofs.reading.parts_in.Goals as goal

pub returns-in_err-row : goal.returns-in_err-row
returns-in_err-row c =
    let p = err_from_is_err_and c.from_residual.result c.from_residual.ensures.1 in
    rw (p.1, p.2) (λ shape. then_lost _ c.in_err-row.ensures.1)

pub returns-in_err-bookmarks : goal.returns-in_err-bookmarks
returns-in_err-bookmarks c =
    let p = err_from_is_err_and c.from_residual-in_err-bookmarks.result c.from_residual-in_err-bookmarks.ensures.1 in
    rw (p.1, p.2) (λ shape. (then_goes _ c.in_ok-row.ensures (then_lost _ c.in_err-bookmarks.ensures.1)))

pub returns-in_err-carried : goal.returns-in_err-carried
returns-in_err-carried c =
    let p = err_from_is_err_and c.from_residual-in_err-carried.result c.from_residual-in_err-carried.ensures.1 in
    rw (p.1, p.2) (λ shape. (then_goes _ c.in_ok-row.ensures (then_goes _ c.in_ok-bookmarks.ensures (then_lost _
    c.in_err-carried.ensures.1))))

pub returns-in_err-heads : goal.returns-in_err-heads
returns-in_err-heads c =
    let p = err_from_is_err_and c.from_residual-in_err-heads.result c.from_residual-in_err-heads.ensures.1 in
    rw (p.1, p.2) (λ shape. (then_goes _ c.in_ok-row.ensures (then_goes _ c.in_ok-bookmarks.ensures (then_goes _
    c.in_ok-carried.ensures (then_lost _ c.in_err-heads.ensures.1)))))

pub returns-in_err-main : goal.returns-in_err-main
returns-in_err-main c =
    let p = err_from_is_err_and c.from_residual-in_err-main.result c.from_residual-in_err-main.ensures.1 in
    rw (p.1, p.2) (λ shape. (then_goes _ c.in_ok-row.ensures (then_goes _ c.in_ok-bookmarks.ensures (then_goes _
    c.in_ok-carried.ensures (then_goes _ c.in_ok-heads.ensures (then_lost _ c.in_err-main.ensures.1))))))

pub returns-in_err-notes : goal.returns-in_err-notes
returns-in_err-notes c =
    let p = err_from_is_err_and c.from_residual-in_err-notes.result c.from_residual-in_err-notes.ensures.1 in
    rw (p.1, p.2) (λ shape. (then_goes _ c.in_ok-row.ensures (then_goes _ c.in_ok-bookmarks.ensures (then_goes _
    c.in_ok-carried.ensures (then_goes _ c.in_ok-heads.ensures (then_goes _ c.in_ok-main.ensures (then_lost _
    c.in_err-notes.ensures.1)))))))

pub returns-in_err-sheet : goal.returns-in_err-sheet
returns-in_err-sheet c =
    let p = err_from_is_err_and c.from_residual-in_err-sheet.result c.from_residual-in_err-sheet.ensures.1 in
    rw (p.1, p.2) (λ shape. (then_goes _ c.in_ok-row.ensures (then_goes _ c.in_ok-bookmarks.ensures (then_goes _
    c.in_ok-carried.ensures (then_goes _ c.in_ok-heads.ensures (then_goes _ c.in_ok-main.ensures (then_goes _
    c.in_ok-notes.ensures (then_lost _ c.in_err-sheet.ensures.1))))))))

pub returns-in_err-end : goal.returns-in_err-end
returns-in_err-end c =
    let p = err_from_is_err_and c.from_residual-in_err-end.result c.from_residual-in_err-end.ensures.1 in
    rw (p.1, p.2) (λ shape. (then_goes _ c.in_ok-row.ensures (then_goes _ c.in_ok-bookmarks.ensures (then_goes _
    c.in_ok-carried.ensures (then_goes _ c.in_ok-heads.ensures (then_goes _ c.in_ok-main.ensures (then_goes _
    c.in_ok-notes.ensures (then_goes _ c.in_ok-sheet.ensures (then_lost _ (gives_lost c.in_err-end.ensures
    shape))))))))))

pub returns : goal.returns
returns c =
    then_goes _ c.in_ok-row.ensures (then_goes _ c.in_ok-bookmarks.ensures (then_goes _ c.in_ok-carried.ensures
    (then_goes _ c.in_ok-heads.ensures (then_goes _ c.in_ok-main.ensures (then_goes _ c.in_ok-notes.ensures
    (then_goes _ c.in_ok-sheet.ensures (then_goes _ c.in_ok-end.ensures refl)))))))
