use Rattle.std.proofs.Common.{◌≡◌, ◌∙◌, ◌<◌, ap, sym, arith, take}
use Rattle.std.specs.Prelude.{Some, slice_get, slice_index}
use Rattle.std.proofs.lemmas.Option.{slice_get-get_or}
use Rattle.std.proofs.lemmas.List.Elements.{All-get_or}
use Rattle.style_sheet.specs.Sheet.{Sheet}
use Rattle.style_sheet.specs.Chain.{style_kind_at}
use Rattle.style_sheet.specs.Changes.{base_dropped}
use Rattle.doc_mends.proofs.BaseLemmas.{all_kinds_stay, dropped_more}
use Rattle.doc_mends.proofs.bases.drop_each.Goals as goal

pub drop_base-requires : goal.drop_base-requires
drop_base-requires c =
    let istds = c.args.istds.now in
    let k = c.loop-k.k in
    let istd = slice_index istds k in
    let sheet = c.args.sheet.now in
    let there : 0 < style_kind_at sheet istd =
    All-get_or (λ istd. 0 < style_kind_at sheet istd) istds k 0 c.loop-k-test.true c.requires in
    let same : style_kind_at c.loop-k.sheet istd ≡ style_kind_at sheet istd =
    ap (λ (s : Sheet). style_kind_at s istd) c.loop-k.invariant ∙ all_kinds_stay (take k istds) sheet istd in
    omega (arith, there, same)

pub loop-k-preserved : goal.loop-k-preserved
loop-k-preserved c =
    let istds = c.args.istds.now in
    let k = c.loop-k.k in
    let istd = slice_index istds k in
    let sheet = c.args.sheet.now in
    let there : slice_get istds k ≡ Some istd = slice_get-get_or istds k 0 c.loop-k-test.true in
    c.in_ok-drop_base.ensures.ok
    ∙ (ap (λ (s : Sheet). base_dropped s istd) c.loop-k.invariant
    ∙ sym (dropped_more istds sheet k istd c.loop-k-test.true there))
