use Rattle.std.proofs.Common.{Option, None, ℕ, List}
use Rattle.std.specs.Prelude.{MatchOption}
use Rattle.std.proofs.lemmas.Result.{IfOk-weaker}
use Rattle.doc_fit.specs.declared.opening.OpenedAny.{OpenedAny}
use Rattle.doc_fit.specs.Noted.{AreNoted, IsFirstNoted, IsOpenedFirst, IsOpenedAsNoted, choices}
use Rattle.doc_fit.proofs.NotedLemmas.{unless_plain}
use Rattle.doc_fit.proofs.noting.noted_unless.Goals as goal

pub returns : goal.returns
returns c =
    let file = c.args.file.now in
    let plain = c.args.plain in
    IfOk-weaker c.open_first.result
    (λ (found : Option OpenedAny). MatchOption found (IsFirstNoted choices file None) (IsOpenedFirst choices file))
    (λ (found : Option OpenedAny). MatchOption found (AreNoted plain file None) (IsOpenedAsNoted plain file))
    (λ found is. unless_plain plain file found c.if-plain.false is) c.open_first.ensures
