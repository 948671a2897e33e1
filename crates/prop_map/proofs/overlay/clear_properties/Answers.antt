use Rattle.std.proofs.Common.{ap, ◌∙◌, cond, None}
use Rattle.std.specs.FinMap.{get}
use Rattle.prop_map.specs.Acting.{is_kept_by_plain}
use Rattle.prop_map.proofs.ChangeLemmas.{get-retained}
use Rattle.prop_map.proofs.OverlayLemmas.{put_first, cleared}
use Rattle.prop_map.proofs.overlay.clear_properties.Goals as goal

pub returns : goal.returns
returns c = λ code.
    let first = put_first _ _ c.args.base.now code (c.in_ok-put_all.ensures code) c.new-draft.ensures in
    ap (λ m. get m code) c.clear.ensures
    ∙ (get-retained c.put_all.new.self is_kept_by_plain code
    ∙ (ap (λ o. cond (is_kept_by_plain code) o None) first ∙ cleared (is_kept_by_plain code) (get c.args.base.now
    code)))
