use Rattle.std.proofs.lemmas.Result.{IfOk-weaker}
use Rattle.doc_fit.specs.ReadAs.{IsMendedOn, IsOpenedFile, most_mends}
use Rattle.doc_fit.proofs.ReadAsLemmas.{opened_mended, refused_accepted}
use Rattle.doc_fit.proofs.file_opening.open_refused.Goals as goal

pub returns-then-accepted : goal.returns-then-accepted
returns-then-accepted c =
    rw c.refused_file.ensures
    (refused_accepted c.args.plain c.args.file.now c.args.mended c.args.fault c.requires.given
    (c.in_ok-accepted.ensures.0 c.if-accepted.true) c.requires.refused)

pub returns : goal.returns
returns c =
    let file = c.args.file.now in
    let copy = c.args.mended in
    let never = c.if-accepted.false in
    let is = c.in_ok-accepted.ensures in
    IfOk-weaker c.open_mended.result (λ f. IsMendedOn c.args.plain file most_mends copy f) (λ f. IsOpenedFile c.args.plain file f)
    (λ f on. opened_mended c.args.plain file copy f c.requires.given (λ accepted. absurd (cc (never, is.1 accepted))) on)
    c.open_mended.ensures
