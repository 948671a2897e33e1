use Rattle.std.proofs.Common.{subst, Option, None, ℕ, List}
use Rattle.std.specs.Prelude.{MatchOption}
use Rattle.std.proofs.lemmas.Result.{IfOk-weaker}
use Rattle.further_notes.specs.declared.stories.NotedStories.TheVariants.{Both}
use Rattle.doc_fit.specs.declared.opening.OpenedAny.{OpenedAny}
use Rattle.doc_fit.specs.Noted.{CannotNote, IsOpenedNoted, IsFirstNoted, IsOpenedFirst, choices, one_story}
use Rattle.doc_fit.proofs.NotedLemmas.{first_found, later_found}
use Rattle.doc_fit.proofs.noting.open_first.Goals as goal

pub returns-in-Some : goal.returns-in-Some
returns-in-Some c =
    let file = c.args.file.now in
    first_found Both one_story file c.in-Some.opened
    (subst (λ (o : Option OpenedAny). MatchOption o (CannotNote Both file) (IsOpenedNoted Both file)) c.in-Some.is
    c.in_ok-both.ensures)

pub returns-in-None : goal.returns-in-None
returns-in-None c =
    let file = c.args.file.now in
    let cannot = subst (λ (o : Option OpenedAny). MatchOption o (CannotNote Both file) (IsOpenedNoted Both file))
    c.in-None.is c.in_ok-both.ensures in
    IfOk-weaker c.open_either.result
    (λ (found : Option OpenedAny). MatchOption found (IsFirstNoted one_story file None) (IsOpenedFirst one_story file))
    (λ (found : Option OpenedAny). MatchOption found (IsFirstNoted choices file None) (IsOpenedFirst choices file))
    (λ found is. later_found Both one_story file found cannot is) c.open_either.ensures
