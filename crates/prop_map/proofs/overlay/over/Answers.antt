use Rattle.std.proofs.Common.{refl, ap, ◌∙◌}
use Rattle.std.specs.Option.{option_or}
use Rattle.std.specs.FinMap.{get}
use Rattle.prop_map.proofs.OverlayLemmas.{over_nothing}
use Rattle.prop_map.proofs.overlay.over.Goals as goal

pub returns-then-is_empty : goal.returns-then-is_empty
returns-then-is_empty c = λ code. ap (λ m. get m code) c.in_ok-copy.ensures ∙ over_nothing c.args.clear code
    c.args.top.now c.args.base.now (c.if-is_empty.ensures.0 refl)

pub returns-then-not-clear : goal.returns-then-not-clear
returns-then-not-clear c = rw c.if-not-clear.true c.in_ok-both.ensures

pub returns : goal.returns
returns c = λ code. rw c.if-not-clear.false (ap (λ m. get m code) c.in_ok-made.ensures ∙ (c.in_ok-put_all.ensures code
    ∙ ap (option_or (get c.args.top.now code)) (c.in_ok-draft.ensures code)))
