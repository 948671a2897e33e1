use Rattle.std.proofs.Common.{sym, ap, ◌∙◌, subst}
use Rattle.cfb_sectors.specs.Claims.{AreDistinctBelow}
use Rattle.cfb_sectors.specs.Header.{valid_below}
use Rattle.cfb_sectors.specs.Chain.{fat_table}
use Rattle.cfb_streams.specs.Layout.{layout_places_of}
use Rattle.cfb_streams.specs.Gathered.{IsTakenFront}
use Rattle.cfb_streams.proofs.SharingLemmas.{chain_apart, mini_fat_apart, mini_stream_apart}
use Rattle.cfb_streams.proofs.GatherLemmas.{parts_taken}
use Rattle.cfb_streams.proofs.layout.Layout.take_parts.Goals as goal

pub claim-requires : goal.claim-requires
claim-requires c =
    let len = c.in_ok-sectors.ensures.len ∙ (c.valid.ensures ∙ ap (λ t. t.valid) c.self.invariant.is_fat) in
    subst (λ n. AreDistinctBelow n c.directory.result.now) (sym len)
    (subst (AreDistinctBelow (valid_below c.self.inside.entries.file)) (sym c.directory.ensures.sectors)
    (chain_apart (fat_table c.self.inside.entries.file) _ c.self.inside.entries.directory
    c.self.invariant.is_layout.are_entries.is_directory.holds))

pub claim-requires-2 : goal.claim-requires-2
claim-requires-2 c =
    let len = c.claim.ensures.len
    ∙ (c.in_ok-sectors.ensures.len ∙ (c.valid.ensures ∙ ap (λ t. t.valid) c.self.invariant.is_fat)) in
    subst (λ n. AreDistinctBelow n c.sectors-2.result.now) (sym len)
    (subst (AreDistinctBelow (valid_below c.self.inside.entries.file)) (sym c.sectors-2.ensures)
    (mini_fat_apart c.self.inside.entries.file c.self.inside.mini.sectors c.self.invariant.is_layout.mini_fat))

pub claim-requires-3 : goal.claim-requires-3
claim-requires-3 c =
    let len = c.claim-2.ensures.len ∙ (c.claim.ensures.len
    ∙ (c.in_ok-sectors.ensures.len ∙ (c.valid.ensures ∙ ap (λ t. t.valid) c.self.invariant.is_fat))) in
    subst (λ n. AreDistinctBelow n c.deref.result.now) (sym len)
    (subst (AreDistinctBelow (valid_below c.self.inside.entries.file)) (sym c.deref.ensures.value)
    (mini_stream_apart c.self.inside.entries.file c.self.inside.entries.directory c.self.inside.mini_stream.items
    c.self.invariant.is_layout.mini_stream))

pub returns : goal.returns
returns c =
    let marks = c.claim-3.ensures.len
    ∙ (c.claim-2.ensures.len ∙ (c.claim.ensures.len ∙ (c.in_ok-sectors.ensures.len ∙ c.valid.ensures))) in
    subst (λ p. IsTakenFront p 0 (record { sectors = c.claim-3.new.self; minis = c.in_ok-minis.minis })) c.self.view_is
    (parts_taken (layout_places_of c.self.inside.entries c.self.inside.mini.sectors c.self.inside.mini_stream.items)
    c.directory.result.now c.sectors-2.result.now c.deref.result.now
    c.in_ok-sectors.sectors c.claim.new.self c.claim-2.new.self c.claim-3.new.self c.in_ok-minis.minis
    c.self.invariant.is_layout c.directory.ensures.sectors c.sectors-2.ensures c.deref.ensures.value
    c.in_ok-sectors.ensures.none c.in_ok-sectors.ensures.unshared c.in_ok-minis.ensures.none
    c.in_ok-minis.ensures.unshared
    (marks ∙ ap (λ t. t.valid) c.self.invariant.is_fat)
    (c.in_ok-minis.ensures.len ∙ (c.valid-2.ensures ∙ ap (λ t. t.valid) c.self.invariant.is_mini))
    c.claim.ensures.takes c.claim-2.ensures.takes c.claim-3.ensures.takes)
