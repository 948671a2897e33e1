use Rattle.std.proofs.Common.{ap, ◌∙◌}
use Rattle.style_sheet.specs.Sheet.{style_at}
use Rattle.effective_props.specs.LayerParts.{properties_in}
use Rattle.effective_props.proofs.LayerLemmas.{match_now, styles_more}
use Rattle.effective_props.proofs.layers.add_styles.Goals as goal

pub loop-i-preserved : goal.loop-i-preserved
loop-i-preserved c =
    let properties = properties_in c.args.part in
    let style = match_now (λ s. s.now) c.get-in-loop-i.result (style_at c.args.sheet.now c.get.result)
    c.get-in-loop-i.ensures.style in
    styles_more properties c.args.sheet.now c.args.chain.now c.loop-i.i c.get.result c.args.layers.now.items
    c.loop-i.layers.items c.push.new.self.items c.in_ok-properties_of.field-0 c.in_ok-push.ensures.items
    c.get.ensures (c.in_ok-properties_of.ensures ∙ ap properties style) c.loop-i.invariant
