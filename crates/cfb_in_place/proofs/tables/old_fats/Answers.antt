use Rattle.std.proofs.Common.{◌≡◌, [], ◌∷◌, ◌++◌, map, sym, ap, ◌∙◌, arith}
use Rattle.std.specs.List.{range_with_len}
use Rattle.std.proofs.lemmas.List.FromFn.{map-range_with_len_more}
use Rattle.cfb_sectors.specs.Header.{fat_sector, fat_sectors}
use Rattle.cfb_in_place.proofs.tables.old_fats.Goals as goal

pub loop-k-preserved : goal.loop-k-preserved
loop-k-preserved c =
    c.in_ok-push.ensures.items
    ∙ (ap (λ xs. xs ++ c.get32.result ∷ []) c.loop-k.invariant
    ∙ (ap (λ x. map (fat_sector c.args.old.now) (range_with_len 0 c.loop-k.k) ++ x ∷ []) c.get32.ensures
    ∙ sym (map-range_with_len_more (fat_sector c.args.old.now) 0 c.loop-k.k c.loop-k.k (omega arith))))

pub returns : goal.returns
unfolding fat_sectors
returns c =
    let e : c.loop-k.k ≡ c.get32-count.result = omega arith in
    c.loop-k.invariant ∙ ap (λ n. map (fat_sector c.args.old.now) (range_with_len 0 n)) (e ∙ c.get32-count.ensures)
