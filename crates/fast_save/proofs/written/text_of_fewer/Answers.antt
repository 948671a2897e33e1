use Rattle.std.proofs.Common.{subst, Option}
use Rattle.std.specs.Prelude.{MatchOption}
use Rattle.std.proofs.lemmas.Result.{IfOk-weaker}
use Rattle.session_text.specs.declared.old_pieces.OldPieces.TheVariants.{Kept, Marking}
use Rattle.session_text.specs.declared.session_text.SessionText.{SessionText}
use Rattle.fast_save.specs.Written.{IsFitting, IsTooMuch, IsTextOfFewer}
use Rattle.fast_save.proofs.WrittenLemmas.{next_text}
use Rattle.fast_save.proofs.written.text_of_fewer.Goals as goal

pub returns-in-None : goal.returns-in-None
returns-in-None c =
    let document = c.args.document.now in
    let parts = c.args.parts.now in
    let counts = c.args.counts.now in
    let much =
    subst
    (λ (o : Option SessionText). MatchOption o (IsTooMuch document parts counts Marking)
    (IsFitting document parts counts Marking)) c.in-None.is c.in_ok-marking.ensures in
    IfOk-weaker c.rewritten_if_it_fits-in-None.result
    (λ (text : Option SessionText). MatchOption text (IsTooMuch document parts counts Kept)
    (IsFitting document parts counts Kept)) (IsTextOfFewer document parts counts)
    (λ text is. next_text document parts counts text much is) c.rewritten_if_it_fits-in-None.ensures
