use Rattle.std.proofs.Common.{sym, subst, Option}
use Rattle.std.specs.Prelude.{MatchOption}
use Rattle.doc_fit.specs.declared.opening.OpenedAny.{OpenedAny}
use Rattle.doc_fit.specs.declared.opening.Report.{Report}
use Rattle.doc_fit.specs.Noted.{CannotNote, IsNotedReport, IsOpenedNoted}
use Rattle.doc_fit.proofs.noting.open_lifted_noted.Goals as goal

pub returns-in-Ok-Some : goal.returns-in-Ok-Some
returns-in-Ok-Some c =
    let file = c.args.file.now in
    let stories = c.args.stories in
    let before = c.args.lifted in
    let after = c.note_lifted.new.lifted in
    let by = subst (λ (o : Option Report). MatchOption o (CannotNote stories file)
    (λ report. IsNotedReport stories file before after report.losses report.mends.items)) c.in-Ok-Some.field-0-is
    c.in-Ok-Some.ensures in
    subst (λ (o : OpenedAny). IsOpenedNoted stories file o) (sym c.open_parts.ensures) (record { before = before; by = by })
