use Rattle.std.proofs.Common.{◌≡◌, ◌++◌, ◌+◌, ◌<◌, List, ℕ, Some, length, slice_get, sym, ap, ◌∙◌, refl, arith}
use Rattle.std.specs.List.{flat_map, range_with_len}
use Rattle.std.proofs.lemmas.Option.{slice_get-get_or}
use Rattle.cfb_layout.proofs.Public.{row_step}
use Rattle.cfb_in_place.specs.declared.roles.Role.{Role}
use Rattle.cfb_in_place.specs.Sources.{Sources, header_after, sector_after, written_sectors}
use Rattle.cfb_in_place.proofs.WrittenLemmas.{sector_is}
use Rattle.cfb_in_place.proofs.appending.write.Goals as goal

pub push_sector-requires : goal.push_sector-requires
push_sector-requires c =
    let view = ap (λ (s : Sources). s.roles) c.sources.view_is in
    let end = c.len-sector-end.ensures in
    let test = c.loop-sector-test.true in
    let low : c.loop-sector.sector < length c.sources.inside.roles.items = omega arith in
    let here : slice_get c.args.sources.now.roles c.loop-sector.sector ≡ Some c.index.result.now =
    ap (λ (rs : List Role). slice_get rs c.loop-sector.sector) (sym view)
    ∙ (slice_get-get_or c.sources.inside.roles.items c.loop-sector.sector c.index.result.now low
    ∙ ap (λ (r : Role). Some r) (sym c.index.ensures)) in
    c.requires.parts c.loop-sector.sector c.index.result.now here

pub loop-sector-preserved : goal.loop-sector-preserved
loop-sector-preserved c =
    let view = ap (λ (s : Sources). s.roles) c.sources.view_is in
    let end = c.len-sector-end.ensures in
    let test = c.loop-sector-test.true in
    let low : c.loop-sector.sector < length c.sources.inside.roles.items = omega arith in
    let here : slice_get c.args.sources.now.roles c.loop-sector.sector ≡ Some c.index.result.now =
    ap (λ (rs : List Role). slice_get rs c.loop-sector.sector) (sym view)
    ∙ (slice_get-get_or c.sources.inside.roles.items c.loop-sector.sector c.index.result.now low
    ∙ ap (λ (r : Role). Some r) (sym c.index.ensures)) in
    row_step (sector_after c.args.old.now c.args.sources.now) (header_after c.args.old.now c.args.added.now)
    c.loop-sector.out c.push_sector.new.out 0 c.loop-sector.sector c.loop-sector.sector (c.loop-sector.sector + 1)
    c.loop-sector.invariant
    (c.in_ok-push_sector.ensures ∙ ap (λ (xs : List ℕ). c.loop-sector.out ++ xs)
    (sym (sector_is c.args.old.now c.args.sources.now c.loop-sector.sector c.index.result.now here)))
    (omega arith) refl

pub returns : goal.returns
unfolding written_sectors
returns c =
    let view = ap (λ (s : Sources). length s.roles) c.sources.view_is in
    let past = c.loop-sector-test.false in
    let end : c.loop-sector.sector ≡ length c.args.sources.now.roles = omega arith in
    c.loop-sector.invariant ∙ ap (λ n. header_after c.args.old.now c.args.added.now ++ flat_map
    (sector_after c.args.old.now c.args.sources.now) (range_with_len 0 n)) end
