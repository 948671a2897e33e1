use Rattle.std.proofs.Common.{subst}
use Rattle.script_run.proofs.FastLemmas.{RefusesFast, sixteenth_stops, pieces_stop, sectors_stop}
use Rattle.script_run.proofs.running.save_fast.Goals as goal

pub returns-in-Err-Sixteenth-clause-err : goal.returns-in-Err-Sixteenth-clause-err
returns-in-Err-Sixteenth-clause-err c =
    sixteenth_stops c.args.session.now c.args.index c.in-Err-Sixteenth.count
    (subst (λ fault. RefusesFast c.args.session.now fault) c.in-Err-Sixteenth.field-0-is
    c.in-Err-Sixteenth.ensures.err.1)

pub returns-in-Err-TooManyPieces-clause-err : goal.returns-in-Err-TooManyPieces-clause-err
returns-in-Err-TooManyPieces-clause-err c =
    pieces_stop c.args.session.now c.args.index c.in-Err-TooManyPieces.pieces
    (subst (λ fault. RefusesFast c.args.session.now fault) c.in-Err-TooManyPieces.field-0-is
    c.in-Err-TooManyPieces.ensures.err.1)

pub returns-in-Err-TooLarge-clause-err : goal.returns-in-Err-TooLarge-clause-err
returns-in-Err-TooLarge-clause-err c =
    sectors_stop c.args.session.now c.args.index c.in-Err-TooLarge.sectors
    (subst (λ fault. RefusesFast c.args.session.now fault) c.in-Err-TooLarge.field-0-is c.in-Err-TooLarge.ensures.err.1)
