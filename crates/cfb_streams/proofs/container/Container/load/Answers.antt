use Rattle.std.proofs.Common.{subst}
use Rattle.std.specs.Prelude.{MatchResult}
use Rattle.doc_bits.specs.Rules.{Hold}
use Rattle.cfb_sectors.specs.Judged.{IsCfbFault}
use Rattle.cfb_streams.specs.Container.{container_rules, HasContents}
use Rattle.cfb_streams.specs.Gathered.{places_rules}
use Rattle.cfb_streams.proofs.ContentLemmas.{match_more}
use Rattle.cfb_streams.proofs.LoadLemmas.{layout_fault, layout_holds}
use Rattle.cfb_streams.proofs.container.Container.load.Goals as goal

pub returns : goal.returns
returns c =
    let layout = c.in_ok-layout.layout in
    let is = c.in_ok-layout.ensures.1.0 in
    let storages = c.in_ok-layout.ensures.1.1 in
    let r = c.contents-loaded.result in
    subst (λ f. MatchResult r (λ k. Hold (container_rules f) × HasContents f k) (IsCfbFault (container_rules f)))
    c.in_ok-layout.ensures.0
    (match_more r (λ k. Hold (places_rules layout) × HasContents layout.file k)
    (λ k. Hold (container_rules layout.file) × HasContents layout.file k) (IsCfbFault (places_rules layout))
    (IsCfbFault (container_rules layout.file)) (λ k h. (layout_holds layout is storages h.0, h.1))
    (λ e first. layout_fault layout e is storages first) c.contents-loaded.ensures.judged)
