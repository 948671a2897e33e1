use Rattle.std.proofs.Common.{inl, inr}
use Rattle.doc_fit.proofs.ReadAsLemmas.{given_as_filled, given_read}
use Rattle.doc_fit.proofs.file_opening.read_stops.Goals as goal

pub returns-in_default : goal.returns-in_default
returns-in_default c =
    given_as_filled c.args.file.now c.args.mended c.requires
    (inr (rw c.bytes.ensures at (rw c.in_default.is at c.in_ok-found.ensures)))

pub returns-then-accepted : goal.returns-then-accepted
returns-then-accepted c =
    given_as_filled c.args.file.now c.args.mended c.requires
    (inl (c.in_ok-accepted.ensures.0 c.if-accepted.true))

pub returns : goal.returns
returns c =
    let never = c.if-accepted.false in
    let is = c.in_ok-accepted.ensures in
    given_read c.args.file.now c.args.mended c.renew.new.self c.in-Some.made.mend c.in-Some.made.copy.items c.requires
    (λ accepted. absurd (cc (never, is.1 accepted)))
    (rw c.bytes.ensures at (rw c.in-Some.is at c.in_ok-found.ensures)) c.in_ok-renew.ensures
