use Rattle.std.specs.Prelude.{slice_index}
use Rattle.std.proofs.Common.{◌≡◌, ◌∙◌, ◌++◌, sym, ap, arith, ℕ, List}
use Rattle.std.proofs.lemmas.Grind.{get_or_default_zero}
use Rattle.std.proofs.lemmas.List.{append-nil}
use Rattle.text_losses.specs.declared.features.TextFeature.{TextFeature}
use Rattle.code_losses.specs.Tallies.{code_count}
use Rattle.code_losses.specs.Losses.{skipped_of}
use Rattle.code_losses.proofs.NamedLemmas.{named_more, named_all}
use Rattle.code_losses.proofs.ResultLemmas.{on_err}
use Rattle.code_losses.proofs.features.push_all_skipped.Goals as goal

pub loop-code-init : goal.loop-code-init
loop-code-init c = sym (append-nil c.args.features.now.items)

pub loop-code-preserved : goal.loop-code-preserved
loop-code-preserved c =
    let counts = c.args.tally.now.counts.items in
    let zero = get_or_default_zero counts c.loop-code.code c.index.result.now
    (omega (arith, c.loop-code-test.true, c.requires.counts)) in
    let count : c.index.result.now ≡ slice_index counts c.loop-code.code = omega (arith, c.index.ensures, zero) in
    named_more (λ code. skipped_of c.args.kind code (slice_index counts code)) c.loop-code.code
    c.args.features.now.items c.loop-code.features.items c.push_skipped.new.features.items c.loop-code.invariant
    (c.in_ok-push_skipped.ensures ∙ ap (λ (n : ℕ). c.loop-code.features.items ++ skipped_of c.args.kind c.loop-code.code n) count)

pub returns-in_err-push_skipped : goal.returns-in_err-push_skipped
returns-in_err-push_skipped c = on_err _ _ c.from_residual.result c.from_residual.ensures.1

pub returns : goal.returns
returns c =
    let ended : c.loop-code.code ≡ code_count = omega (arith, c.loop-code-test.false, c.loop-code.auto.code-end) in
    let each : ℕ → List TextFeature =
    λ code. skipped_of c.args.kind code (slice_index c.args.tally.now.counts.items code) in
    c.loop-code.invariant
    ∙ ap (λ (l : List TextFeature). c.args.features.now.items ++ l) (named_all each c.loop-code.code ended)
