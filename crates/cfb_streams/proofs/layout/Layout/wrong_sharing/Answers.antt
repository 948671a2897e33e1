use Rattle.std.proofs.Common.{length, sym, ap, ◌∙◌, subst}
use Rattle.doc_bits.specs.Rules.{LeastOrNone, lesser_of}
use Rattle.cfb_sectors.specs.Header.{valid_below}
use Rattle.cfb_sectors.specs.SectorChain.{HasSector}
use Rattle.cfb_streams.specs.StreamRules.{BreaksSharing}
use Rattle.cfb_sectors.specs.Claims.{AreDistinctBelow}
use Rattle.cfb_sectors.specs.Tables.{table_at}
use Rattle.cfb_streams.specs.Layout.{layout_places_of}
use Rattle.cfb_streams.specs.Gathered.{HasMarks, IsTakenFront}
use Rattle.cfb_sectors.proofs.Public.{fat_apart}
use Rattle.cfb_streams.proofs.SharingLemmas.{none_unshared}
use Rattle.cfb_streams.proofs.GatherLemmas.{taken_all, takes_unshared}
use Rattle.cfb_streams.proofs.layout.Layout.wrong_sharing.Goals as goal
use Rattle.doc_bits.proofs.Public.{lesser_none}

pub claim-requires : goal.claim-requires
claim-requires c =
    let marks = subst (λ p. HasMarks p c.args.taken.now) (sym c.self.view_is) c.requires.marks in
    subst (λ n. AreDistinctBelow n c.sectors.result.now) (sym marks.for_sectors)
    (subst (AreDistinctBelow (valid_below c.self.inside.entries.file))
    (sym (c.sectors.ensures ∙ ap (λ t. t.sectors) c.self.invariant.is_fat))
    (fat_apart c.self.inside.entries.file c.self.invariant.is_layout.header.1.1))

pub returns-clause-least : goal.returns-clause-least
returns-clause-least c =
    subst (LeastOrNone (BreaksSharing c.args.self.now.file c.args.self.now.parts)) (sym c.lesser.ensures)
    (subst (λ p. LeastOrNone (BreaksSharing p.file p.parts) (lesser_of c.least.result c.least-2.result))
    c.self.view_is
    (taken_all (layout_places_of c.self.inside.entries c.self.inside.mini.sectors c.self.inside.mini_stream.items)
    c.self.inside.fat c.self.inside.mini c.sectors.result.now c.args.taken.now c.claim.new.self c.least.result
    c.least-2.result c.self.invariant.is_layout.are_entries.in_order
    (subst (λ p. IsTakenFront p (length p.streams) c.args.taken.now) (sym c.self.view_is) c.requires)
    c.self.invariant.is_fat c.self.invariant.is_mini c.sectors.ensures c.claim.ensures.takes c.least.ensures
    c.least-2.ensures))

pub returns-clause-none : goal.returns-clause-none
returns-clause-none c = λ none.
    let both = lesser_none c.least.result c.least-2.result (sym c.lesser.ensures ∙ none) in (
      takes_unshared (HasSector c.sectors.result.now) c.args.taken.now.sectors c.claim.new.self c.claim.ensures.takes
          (none_unshared c.claim.new.self (table_at c.self.inside.fat).place c.least.result c.least.ensures both.0),
      none_unshared c.args.taken.now.minis (table_at c.self.inside.mini).place c.least-2.result c.least-2.ensures
          both.1,
    )
