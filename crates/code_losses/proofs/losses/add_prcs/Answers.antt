use Rattle.std.specs.Prelude.{slice_index}
use Rattle.std.proofs.Common.{◌∙◌, ap, ◌++◌, append_assoc, List}
use Rattle.text_losses.specs.declared.features.ListKind.TheVariants.{Prc}
use Rattle.text_losses.specs.declared.features.TextFeature.{TextFeature}
use Rattle.code_losses.specs.Losses.{features_by_code, skipped_of, repeated_of}
use Rattle.code_losses.proofs.NamedLemmas.{named_lists}
use Rattle.code_losses.proofs.ResultLemmas.{on_err}
use Rattle.code_losses.proofs.losses.add_prcs.Goals as goal

pub returns-in_err-push_all_repeated : goal.returns-in_err-push_all_repeated
returns-in_err-push_all_repeated c =
    on_err _ _ c.from_residual-in_err-push_all_repeated.result c.from_residual-in_err-push_all_repeated.ensures.1

pub returns : goal.returns
returns c =
    let found = c.in_ok-counts.ensures in
    let counts = c.in_ok-counts.counts in
    let old = c.args.features.now.items in
    let skips : List TextFeature =
    features_by_code (λ code. skipped_of Prc code (slice_index counts.first.counts.items code)) in
    let repeats : List TextFeature =
    features_by_code (λ code. repeated_of Prc code (slice_index counts.again.counts.items code)) in (
      found.0,
      (
        found.1.0,
        c.in_ok-push_all_repeated.ensures
            ∙ (ap (λ (l : List TextFeature). l ++ repeats) c.in_ok-push_all_skipped.ensures
            ∙ (append_assoc old skips repeats
            ∙ ap (λ (l : List TextFeature). old ++ l) (named_lists Prc found.0 counts found.1.1))),
      ),
    )
