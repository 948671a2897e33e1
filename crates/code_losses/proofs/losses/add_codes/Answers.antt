use Rattle.std.specs.Prelude.{slice_index}
use Rattle.std.proofs.Common.{◌∙◌, ap, ◌++◌, append_assoc, List}
use Rattle.text_losses.specs.declared.features.ListKind.{ListKind}
use Rattle.text_losses.specs.declared.features.TextFeature.{TextFeature}
use Rattle.code_losses.specs.Losses.{list_kind, features_by_code, skipped_of, repeated_of}
use Rattle.code_losses.proofs.NamedLemmas.{named_lists}
use Rattle.code_losses.proofs.ResultLemmas.{on_err}
use Rattle.code_losses.proofs.losses.add_codes.Goals as goal

pub returns-in_err-push_all_repeated : goal.returns-in_err-push_all_repeated
returns-in_err-push_all_repeated c =
    on_err _ _ c.from_residual-in_err-push_all_repeated.result c.from_residual-in_err-push_all_repeated.ensures.1

pub returns : goal.returns
returns c =
    let found = c.in_ok-counts.ensures in
    let counts = c.in_ok-counts.counts in
    let kind = list_kind c.args.kind in
    let old = c.args.features.now.items in
    let skips : ListKind → List TextFeature =
    λ k. features_by_code (λ code. skipped_of k code (slice_index counts.first.counts.items code)) in
    let repeats : ListKind → List TextFeature =
    λ k. features_by_code (λ code. repeated_of k code (slice_index counts.again.counts.items code)) in
    let first = c.in_ok-push_all_skipped.ensures ∙ ap (λ (k : ListKind). old ++ skips k) c.list_kind.ensures in
    let second = c.in_ok-push_all_repeated.ensures
    ∙ ap (λ (k : ListKind). c.push_all_skipped.new.features.items ++ repeats k) c.list_kind-2.ensures in (
      found.0,
      (
        found.1.0,
        second
            ∙ (ap (λ (l : List TextFeature). l ++ repeats kind) first
            ∙ (append_assoc old (skips kind) (repeats kind)
            ∙ ap (λ (l : List TextFeature). old ++ l) (named_lists kind found.0 counts found.1.1))),
      ),
    )
