use Rattle.std.proofs.Common.{◌≡◌, ◌∙◌, ap, subst, inl, inr, length, ℕ, List}
use Rattle.std.proofs.lemmas.Result.{IfOk-weaker}
use Rattle.full_save.specs.Layout.{IsTooLarge}
use Rattle.full_save.specs.declared.fault.SaveFault.{SaveFault}
use Rattle.run_stages.specs.Outcomes.{puts, says}
use Rattle.docfit_run.specs.Lines.{needs_line}
use Rattle.docfit_run.specs.Fitted.{FitMends, IsSaved, fit_report}
use Rattle.docfit_run.proofs.fitting.save.Goals as goal

pub returns-in-Ok : goal.returns-in-Ok
returns-in-Ok c =
    let opened = c.args.opened.now in
    let out = c.args.out.now in
    let bytes = c.in-Ok.bytes in
    let lines = opened.losses in
    let mends : FitMends = record { of_file = c.args.mends.now; of_document = opened.mends.items } in
    IfOk-weaker c.put_ending.result (λ e. e ≡ puts (fit_report (length bytes) lines mends) out bytes)
    (λ e. IsSaved out opened.lifted.document lines mends e)
    (λ e is. inl (record {
      savable = record { formed = c.columns_are_formed.ensures; sound = c.requires; fits = c.in-Ok.ensures.1 };
      ends = is ∙ ap (λ (b : List ℕ). puts (fit_report (length b) lines mends) out b) c.in-Ok.ensures.0;
    })) c.put_ending.ensures

pub returns-in-Err-TooLarge : goal.returns-in-Err-TooLarge
returns-in-Err-TooLarge c =
    let opened = c.args.opened.now in
    let out = c.args.out.now in
    let sectors = c.in-Err-TooLarge.sectors in
    let large = subst (λ (f : SaveFault). IsTooLarge opened.lifted.document f) c.in-Err-TooLarge.field-0-is
    c.in-Err-TooLarge.ensures in
    IfOk-weaker c.too_large.result (λ e. e ≡ says 9 (needs_line sectors))
    (λ e. IsSaved out opened.lifted.document opened.losses
    (record { of_file = c.args.mends.now; of_document = opened.mends.items }) e)
    (λ e is. inr (record { over = large.0; ends = is ∙ ap (λ (s : ℕ). says 9 (needs_line s)) large.1 }))
    c.too_large.ensures
