use Rattle.std.proofs.Common.{subst}
use Rattle.std.specs.Prelude.{MatchResult}
use Rattle.doc_bits.specs.Rules.{Hold}
use Rattle.cfb_sectors.specs.Judged.{IsCfbFault}
use Rattle.cfb_streams.specs.Container.{outer_rules, IsOuterOf}
use Rattle.cfb_streams.specs.Gathered.{places_rules}
use Rattle.cfb_streams.proofs.ContentLemmas.{match_more}
use Rattle.cfb_streams.proofs.LoadLemmas.{outer_layout_fault, outer_layout_holds}
use Rattle.cfb_streams.proofs.container.Container.load_outer.Goals as goal

pub returns : goal.returns
returns c =
    let layout = c.in_ok-layout.layout in
    let is = c.in_ok-layout.ensures.1 in
    let r = c.outer_contents-loaded.result in
    subst (λ f. MatchResult r (λ o. Hold (outer_rules f) × IsOuterOf f o) (IsCfbFault (outer_rules f)))
    c.in_ok-layout.ensures.0
    (match_more r (λ o. Hold (places_rules layout) × IsOuterOf layout.file o)
    (λ o. Hold (outer_rules layout.file) × IsOuterOf layout.file o) (IsCfbFault (places_rules layout))
    (IsCfbFault (outer_rules layout.file)) (λ o h. (outer_layout_holds layout is h.0, h.1))
    (λ e first. outer_layout_fault layout e is first) c.outer_contents-loaded.ensures)
