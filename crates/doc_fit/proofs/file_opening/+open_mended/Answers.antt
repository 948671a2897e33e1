use Rattle.std.proofs.Common.{◌-◌, inl, arith, Ok}
use Rattle.std.proofs.lemmas.Result.{IfOk-weaker}
use Rattle.doc_fit.specs.ReadAs.{IsMendedOn}
use Rattle.doc_fit.proofs.ReadAsLemmas.{ends_refused, ends_unmended, ends_opened, first_made, mends_more}
use Rattle.doc_fit.proofs.file_opening.+open_mended.Goals as goal

pub returns-then-most-eq0 : goal.returns-then-most-eq0
returns-then-most-eq0 t c =
    rw c.refused_file.ensures
    (ends_refused c.args.plain c.args.file.now c.args.most c.args.mended c.args.fault (inl c.if-most-eq0.true) c.requires.refused)

pub returns-in_default : goal.returns-in_default
returns-in_default t c =
    rw c.refused_file-in_default.ensures
    (ends_unmended c.args.plain c.args.file.now c.args.most c.args.mended c.mend_first.new.mended _ c.args.fault c.in_default.is
    c.in_ok-mend.ensures c.requires.refused)

pub open_mended-requires : goal.open_mended-requires
open_mended-requires t c = (
  omega (arith, c.if-most-eq0.false, c.decreases),
  (rw c.bytes.ensures at c.in-Err.ensures.bytes, rw c.bytes.ensures at c.in-Err.ensures.opened),
)

pub returns-in-Ok : goal.returns-in-Ok
returns-in-Ok t c =
    let file = c.args.file.now in
    let new = c.mend_first.new.mended in
    let opened = c.in-Ok.opened in
    rw c.opened_file.ensures
    (mends_more c.args.plain file c.args.most c.args.mended new _ (record { mended = new; opened = Ok opened })
    c.if-most-eq0.false (first_made file c.args.mended new _ _ c.in-Some.is c.in_ok-mend.ensures)
    (ends_opened c.args.plain file (c.args.most - 1) new opened (rw c.bytes.ensures at c.in-Ok.ensures.bytes)
    (rw c.bytes.ensures at c.in-Ok.ensures.opened)))

pub returns-in-Err : goal.returns-in-Err
returns-in-Err t c =
    let file = c.args.file.now in
    let old = c.args.mended in
    let new = c.mend_first.new.mended in
    let most = c.args.most in
    let first = first_made file old new _ _ c.in-Some.is c.in_ok-mend.ensures in
    IfOk-weaker c.open_mended.result (λ f. IsMendedOn c.args.plain file (most - 1) new f) (λ f. IsMendedOn c.args.plain file most old f)
    (λ f on. mends_more c.args.plain file most old new _ f c.if-most-eq0.false first on) c.open_mended.ensures
