use Rattle.std.proofs.Common.{◌<◌, [], ◌∷◌, ◌++◌, length, take, sym, ap, ◌∙◌, arith}
use Rattle.std.proofs.lemmas.List.{take_more}
use Rattle.std.specs.FinMap.{get}
use Rattle.effective_props.specs.Values.{effective_value}
use Rattle.effective_props.specs.ValueSteps.{layer_over}
use Rattle.effective_props.proofs.ValueLemmas.{effective_more, effective_none}
use Rattle.effective_props.proofs.values.values_of.Goals as goal

pub loop-layer-init : goal.loop-layer-init
loop-layer-init c = λ code. effective_none c.new-values.result code c.new-values.ensures

pub loop-layer-preserved : goal.loop-layer-preserved
loop-layer-preserved c = λ code.
    let layers = c.args.layers.now in
    let i = c.loop-layer.layer-index in
    let layer = c.layer-item.result in
    let within : i < length layers = omega arith in
    let more = effective_more (take i layers) layer code in
    c.in_ok-lay_all.ensures code
    ∙ (ap (λ o. layer_over code o (get layer code)) (c.loop-layer.invariant code)
    ∙ (sym more ∙ ap (λ l. effective_value l code) (ap (λ m. take i layers ++ m ∷ []) c.layer-item.is ∙ sym
    (take_more layers i layer within))))
