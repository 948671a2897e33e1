use Rattle.std.proofs.Common.{sym, ap, ◌∙◌, subst}
use Rattle.std.specs.FinMap.{get, entries, entries_sorted, get-entries}
use Rattle.prop_map.proofs.Public.{true_of}
use Rattle.effective_props.specs.ValueSteps.{layer_over}
use Rattle.effective_props.proofs.ValueLemmas.{HasLaidUpTo, none_laid, laid_next, laid_whole}
use Rattle.effective_props.proofs.values.lay_all.Goals as goal

pub loop-code-init : goal.loop-code-init
loop-code-init c = none_laid (entries c.args.layer.now) c.entries-left.result c.args.values.now
    (sym c.entries-left.ensures)

pub loop-code-preserved : goal.loop-code-preserved
loop-code-preserved c =
    let all = entries c.args.layer.now in
    laid_next all c.next.new.self c.args.values.now c.loop-code.values c.lay.new.values c.in-Some.code.0
    c.in-Some.value.now (true_of _ (entries_sorted c.args.layer.now))
    (subst (λ es. HasLaidUpTo all c.args.values.now es c.loop-code.values) c.in-Some.ensures c.loop-code.invariant)
    c.in_ok-lay.ensures

pub returns : goal.returns
returns c = λ code.
    let all = entries c.args.layer.now in
    laid_whole all c.args.values.now c.loop-code.values (subst (λ es. HasLaidUpTo all c.args.values.now es
    c.loop-code.values) c.in_default.ensures.0 c.loop-code.invariant) code
    ∙ ap (layer_over code (get c.args.values.now code)) (sym (get-entries c.args.layer.now code))
