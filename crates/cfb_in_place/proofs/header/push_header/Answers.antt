use Rattle.std.proofs.Common.{◌≡◌, ◌+◌, ◌*◌, ◌++◌, slice_range, ap, ◌∙◌, arith, length-take}
use Rattle.std.specs.List.{flat_map, range_with_len}
use Rattle.doc_bits.specs.Number.{number_bytes}
use Rattle.cfb_sectors.specs.Header.{fat_sector_count}
use Rattle.cfb_in_place.specs.Change.{Added, fat_from}
use Rattle.cfb_in_place.specs.Sources.{header_after}
use Rattle.cfb_in_place.proofs.SourceLemmas.{five_join}
use Rattle.cfb_in_place.proofs.header.push_header.Goals as goal

pub slice_bounds-push_all-end : goal.slice_bounds-push_all-end
slice_bounds-push_all-end c =
    let len = length-take 44 c.args.old.now in
    let whole = c.requires.header in
    omega arith

pub returns : goal.returns
unfolding header_after
returns c =
    let old = c.args.old.now in
    let count = c.get32-fats.ensures in
    let more = ap (λ (a : Added). a.fat) c.added.view_is in
    let all : c.get32-fats.result + c.added.inside.fat ≡ fat_sector_count old + c.args.added.now.fat = omega arith in
    five_join c.args.out.now c.push_all.new.self c.push32.new.self c.push_all-2.new.self c.push_row.new.out
    c.push_all-3.new.self _ _ _ _ _ c.in_ok-push_all.ensures.ok
    (c.in_ok-push32.ensures.ok ∙ ap (λ n. c.push_all.new.self ++ number_bytes 4 n) all)
    (c.in_ok-push_all-2.ensures.ok ∙ ap (λ n. c.push32.new.self ++ slice_range old 48 (76 + 4 * n)) count)
    (c.in_ok-push_row.ensures ∙ (ap (λ n. c.push_all-2.new.self ++ flat_map (number_bytes 4) (range_with_len n
    c.added.inside.fat)) c.fat_from.ensures ∙ ap (λ n. c.push_all-2.new.self ++ flat_map (number_bytes 4)
    (range_with_len (fat_from c.args.added.now) n)) more))
    (c.in_ok-push_all-3.ensures.ok ∙ ap (λ n. c.push_row.new.out ++ slice_range old (76 + 4 * n) 512) all)
