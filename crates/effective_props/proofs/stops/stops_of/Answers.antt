use Rattle.std.proofs.Common.{◌<◌, ◌≤◌, [], ◌∷◌, ◌++◌, length, take, subst, sym, ap, ◌∙◌, arith}
use Rattle.std.proofs.lemmas.List.{take_more, take_all}
use Rattle.effective_props.specs.StopSteps.{kinds_in}
use Rattle.effective_props.proofs.StopLemmas.{HoldsStops, stops_more}
use Rattle.effective_props.proofs.StopListLemmas.{stops_listed}
use Rattle.effective_props.proofs.stops.stops_of.Goals as goal

pub loop-layer-preserved : goal.loop-layer-preserved
loop-layer-preserved c =
    let layers = c.args.layers.now in
    let i = c.loop-layer.layer-index in
    let layer = c.layer-item.result in
    let within : i < length layers = omega arith in
    let more = stops_more (take i layers) layer (kinds_in c.loop-layer.stops) (kinds_in c.change_by_layer.new.stops)
    c.loop-layer.invariant
    c.in_ok-change_by_layer.ensures in
    subst (λ l. HoldsStops l (kinds_in c.change_by_layer.new.stops)) (ap (λ m. take i layers ++ m ∷ []) c.layer-item.is ∙ sym
    (take_more layers i layer within)) more

pub returns : goal.returns
returns c =
    let layers = c.args.layers.now in
    let all : length layers ≤ c.loop-layer.layer-index = omega arith in
    let holds = subst (λ l. HoldsStops l (kinds_in c.loop-layer.stops)) (take_all c.loop-layer.layer-index layers all)
    c.loop-layer.invariant in
    stops_listed layers c.loop-layer.stops c.in_ok-tabs.tabs holds c.tabs_of.ensures.ordered c.in_ok-tabs.ensures.tabs
