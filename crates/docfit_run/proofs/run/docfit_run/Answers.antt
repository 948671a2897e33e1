use Rattle.std.proofs.Common.{◌∙◌, subst, sym, inl, inr, refl, map}
use Rattle.std.specs.String.{string_bytes}
use Rattle.docfit_run.specs.Endings.{IsEnding}
use Rattle.docfit_run.proofs.LawLemmas.{fits_are_held, fits_save_accepted, fits_are_fixed}
use Rattle.docfit_run.proofs.OneLemmas.{fit_is_one}
use Rattle.docfit_run.proofs.PutLemmas.{ending_usage}
use Rattle.docfit_run.proofs.CompleteLemmas.{complete}
use Rattle.docfit_run.proofs.AcceptedLemmas.{unrefused}
use Rattle.docfit_run.specs.Laws.{IsAcceptedStatus}
use Rattle.docfit_run.proofs.run.docfit_run.Goals as goal

pub returns-in_default-clause-held : goal.returns-in_default-clause-held
returns-in_default-clause-held g c = fits_are_held

pub returns-in-Ok-write_all-clause-held : goal.returns-in-Ok-write_all-clause-held
returns-in-Ok-write_all-clause-held g c = fits_are_held

pub returns-clause-held : goal.returns-clause-held
returns-clause-held g c = fits_are_held

pub returns-in_default-clause-only : goal.returns-in_default-clause-only
returns-in_default-clause-only g c = fit_is_one

pub returns-in-Ok-write_all-clause-only : goal.returns-in-Ok-write_all-clause-only
returns-in-Ok-write_all-clause-only g c = fit_is_one

pub returns-clause-only : goal.returns-clause-only
returns-clause-only g c = fit_is_one

pub returns-in_default-clause-accepted : goal.returns-in_default-clause-accepted
returns-in_default-clause-accepted g c = fits_save_accepted

pub returns-in-Ok-write_all-clause-accepted : goal.returns-in-Ok-write_all-clause-accepted
returns-in-Ok-write_all-clause-accepted g c = fits_save_accepted

pub returns-clause-accepted : goal.returns-clause-accepted
returns-clause-accepted g c = fits_save_accepted

pub returns-in_default-clause-fixed : goal.returns-in_default-clause-fixed
returns-in_default-clause-fixed g c = fits_are_fixed

pub returns-in-Ok-write_all-clause-fixed : goal.returns-in-Ok-write_all-clause-fixed
returns-in-Ok-write_all-clause-fixed g c = fits_are_fixed

pub returns-clause-fixed : goal.returns-clause-fixed
returns-clause-fixed g c = fits_are_fixed

pub returns-in-Ok-write_all-clause-usage : goal.returns-in-Ok-write_all-clause-usage
returns-in-Ok-write_all-clause-usage g c no_sink no_memory =
    let words = map string_bytes c.args.words.now in
    rw c.status.ensures (ending_usage words (g.S.Shelf.held c.args.shelf.now) c.in-Ok.ending c.in-Ok.ensures.ending)

pub returns-in-Ok-write_all-clause-complete : goal.returns-in-Ok-write_all-clause-complete
returns-in-Ok-write_all-clause-complete g c plain file name files asked told can no_fault no_sink_fault memory =
    let words = map string_bytes c.args.words.now in
    let ending = c.in-Ok.ending in
    let is = subst (λ held. IsEnding words held ending) told c.in-Ok.ensures.ending in
    c.status.ensures ∙ complete words plain file name files ending asked can is
    (λ e. no_fault (c.in-Ok.ensures.cause.shelf_fault e))

pub returns-in_default-clause-unrefused : goal.returns-in_default-clause-unrefused
returns-in_default-clause-unrefused g c plain file name files bytes asked told there accepted =
    inr (inr (inr (inl refl)))

pub returns-in-Ok-write_all-clause-unrefused : goal.returns-in-Ok-write_all-clause-unrefused
returns-in-Ok-write_all-clause-unrefused g c plain file name files bytes asked told there accepted =
    let words = map string_bytes c.args.words.now in
    let ending = c.in-Ok.ending in
    let is = subst (λ held. IsEnding words held ending) told c.in-Ok.ensures.ending in
    subst IsAcceptedStatus (sym c.status.ensures) (unrefused words plain file name files bytes ending asked there accepted is)

pub returns-clause-unrefused : goal.returns-clause-unrefused
returns-clause-unrefused g c plain file name files bytes asked told there accepted = inr (inr (inl refl))
