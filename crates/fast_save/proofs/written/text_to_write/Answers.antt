use Rattle.std.proofs.Common.{subst, Option}
use Rattle.std.specs.Prelude.{MatchOption}
use Rattle.std.proofs.lemmas.Result.{IfOk-weaker}
use Rattle.session_text.specs.declared.old_pieces.OldPieces.TheVariants.{Modified}
use Rattle.session_text.specs.declared.session_text.SessionText.{SessionText}
use Rattle.fast_save.specs.Written.{IsFitting, IsTooMuch, IsTextToWrite, IsTextOfFewer}
use Rattle.fast_save.proofs.WrittenLemmas.{fewer_text}
use Rattle.fast_save.proofs.written.text_to_write.Goals as goal

pub returns-in-None : goal.returns-in-None
returns-in-None c =
    let document = c.args.document.now in
    let parts = c.args.parts.now in
    let counts = c.args.counts.now in
    let much =
    subst
    (λ (o : Option SessionText). MatchOption o (IsTooMuch document parts counts Modified)
    (IsFitting document parts counts Modified)) c.in-None.is c.in_ok-whole.ensures in
    IfOk-weaker c.text_of_fewer.result (IsTextOfFewer document parts counts)
    (IsTextToWrite document parts counts)
    (λ text is. fewer_text document parts counts text much is) c.text_of_fewer.ensures
