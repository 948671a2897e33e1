use Rattle.std.proofs.Common.{subst, Option, [], ◌∷◌}
use Rattle.std.specs.Prelude.{MatchOption}
use Rattle.further_notes.specs.declared.stories.NotedStories.TheVariants.{Endnotes, Comments}
use Rattle.doc_fit.specs.declared.opening.OpenedAny.{OpenedAny}
use Rattle.doc_fit.specs.Noted.{CannotNote, IsOpenedNoted}
use Rattle.doc_fit.proofs.NotedLemmas.{first_found, later_found, last_found}
use Rattle.doc_fit.proofs.noting.open_either.Goals as goal

pub returns-in-Some : goal.returns-in-Some
returns-in-Some c =
    let file = c.args.file.now in
    first_found Endnotes (Comments ∷ []) file c.in-Some.opened
    (subst (λ (o : Option OpenedAny). MatchOption o (CannotNote Endnotes file) (IsOpenedNoted Endnotes file))
    c.in-Some.is c.in_ok-endnotes.ensures)

pub returns-in_ok-comments-in-None : goal.returns-in_ok-comments-in-None
returns-in_ok-comments-in-None c =
    let file = c.args.file.now in
    let cannot = subst
    (λ (o : Option OpenedAny). MatchOption o (CannotNote Endnotes file) (IsOpenedNoted Endnotes file)) c.in-None.is
    c.in_ok-endnotes.ensures in
    later_found Endnotes (Comments ∷ []) file c.in_ok-comments-in-None.comments cannot
    (last_found Comments file c.in_ok-comments-in-None.comments c.in_ok-comments-in-None.ensures)
